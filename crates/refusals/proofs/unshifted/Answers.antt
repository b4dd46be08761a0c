use Rattle.refusals.specs.Offset.{unshifted}
use borrow.Author.Rules.{rules}
use Rattle.refusals.proofs.unshifted.Goals as goal

pub returns : goal.returns
unfolding unshifted
returns c = simp (← c.refuse.ensures)
