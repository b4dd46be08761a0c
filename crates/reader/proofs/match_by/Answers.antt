use Rattle.reading_laws.specs.Field.{match_by}
use borrow.Author.Rules.{rules}
use Rattle.reader.proofs.match_by.Goals as goal

pub returns-then-level : goal.returns-then-level
unfolding match_by
returns-then-level c =
    simp (c.if-level.true, ← c.match_level.ensures, ← c.leveled.ensures)

pub returns : goal.returns
unfolding match_by
returns c =
    simp (c.if-level.false, ← c.match_text.ensures, ← c.strictly.ensures)
