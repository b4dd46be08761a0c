use Rattle.xranges.specs.Range.{days}
use borrow.Author.Rules.{rules}
use Rattle.xranges.proofs.days.Goals as goal

pub returns : goal.returns
unfolding days
returns c = simp (c.date.ensures, c.date-2.ensures)
