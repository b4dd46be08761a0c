use Rattle.points.specs.Step.{day_at}
use borrow.Author.Rules.{rules}
use Rattle.points.proofs.parse_day.Goals as goal

pub returns : goal.returns
unfolding day_at
returns c = simp (← c.parse_part.ensures)
