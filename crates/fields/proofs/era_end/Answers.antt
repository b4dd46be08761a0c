use Rattle.chars.specs.Pick.{pick}
use Rattle.fields.specs.Year.{era_end}
use borrow.Author.Rules.{rules}
use Rattle.fields.proofs.era_end.Goals as goal

pub returns-then-at : goal.returns-then-at
unfolding era_end pick
returns-then-at c =
    simp (← c.at.ensures, c.if-at.true, ← c.refuse_text.ensures)

pub returns : goal.returns
unfolding era_end pick
returns c =
    simp (← c.at.ensures, c.if-at.false)
