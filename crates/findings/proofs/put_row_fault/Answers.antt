use Rattle.findings.proofs.Runs.{both, ran-as}
use Rattle.findings.specs.Words.{row_words}
use Rattle.findings.proofs.put_row_fault.Goals as goal

pub returns-in-Broken : goal.returns-in-Broken
unfolding row_words
returns-in-Broken c =
    ran-as c.put_fault.ensures (simp c.in-Broken.is)

pub returns-in-Cells : goal.returns-in-Cells
unfolding row_words
returns-in-Cells c =
    ran-as (both c.put_placed-k.ensures c.put_placed.ensures) (simp c.in-Cells.is)

pub returns-in-BadUtf8 : goal.returns-in-BadUtf8
unfolding row_words
returns-in-BadUtf8 c =
    ran-as c.put_placed-in-BadUtf8.ensures (simp c.in-BadUtf8.is)

pub returns-in-LongCell : goal.returns-in-LongCell
unfolding row_words
returns-in-LongCell c =
    ran-as c.put_piece.ensures (simp c.in-LongCell.is)
