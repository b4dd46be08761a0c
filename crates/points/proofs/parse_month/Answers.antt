use Rattle.points.specs.Step.{month_at}
use borrow.Author.Rules.{rules}
use Rattle.points.proofs.parse_month.Goals as goal

pub returns : goal.returns
unfolding month_at
returns c = simp (← c.parse_part.ensures)
