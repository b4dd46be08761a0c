use Rattle.findings.proofs.Runs.{both, ran-as}
use Rattle.findings.specs.Lines.{unusable_words}
use Rattle.findings.proofs.put_unusable.Goals as goal

pub returns-in-Empty : goal.returns-in-Empty
unfolding unusable_words
returns-in-Empty c =
    ran-as c.put_piece.ensures (simp c.in-Empty.is)

pub returns-in-NoColumn : goal.returns-in-NoColumn
unfolding unusable_words
returns-in-NoColumn c =
    ran-as c.put_piece-in-NoColumn.ensures (simp c.in-NoColumn.is)

pub returns-in-Twice : goal.returns-in-Twice
unfolding unusable_words
returns-in-Twice c =
    ran-as c.put_piece-in-Twice.ensures (simp c.in-Twice.is)

pub returns-in-Returns : goal.returns-in-Returns
unfolding unusable_words
returns-in-Returns c =
    ran-as c.put_piece-in-Returns.ensures (simp c.in-Returns.is)

pub returns-in-NoRow : goal.returns-in-NoRow
unfolding unusable_words
returns-in-NoRow c =
    ran-as (both c.put_piece-k.ensures c.put_row_fault.ensures) (simp c.in-NoRow.is)
