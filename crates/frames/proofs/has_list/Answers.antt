use Rattle.frames.specs.Lists.{has_list}
use borrow.Author.Rules.{rules}
use Rattle.frames.proofs.has_list.Goals as goal

pub returns : goal.returns
unfolding has_list
returns c = simp (← c.byte_at.ensures)
