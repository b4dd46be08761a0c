use Rattle.refusals.specs.Offset.{until_span_end}
use borrow.Author.Rules.{rules}
use Rattle.refusals.proofs.until_span_end.Goals as goal

pub returns : goal.returns
unfolding until_span_end
returns c = simp (← c.refuse.ensures)
