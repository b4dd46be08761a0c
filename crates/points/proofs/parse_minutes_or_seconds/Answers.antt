use Rattle.points.specs.Step.{sixty_at}
use borrow.Author.Rules.{rules}
use Rattle.points.proofs.parse_minutes_or_seconds.Goals as goal

pub returns : goal.returns
unfolding sixty_at
returns c = simp (← c.parse_part.ensures)
