use Rattle.points.specs.Step.{hour_at}
use borrow.Author.Rules.{rules}
use Rattle.points.proofs.parse_hour.Goals as goal

pub returns : goal.returns
unfolding hour_at
returns c = simp (← c.parse_part.ensures)
