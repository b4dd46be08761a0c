use Rattle.refusals.specs.Offset.{offset}
use borrow.Author.Rules.{rules}
use Rattle.refusals.proofs.offset.Goals as goal

pub returns : goal.returns
unfolding offset
returns c =
    simp (← c.saturating_add-start.ensures, ← c.saturating_add-end.ensures, ← c.refuse.ensures)
