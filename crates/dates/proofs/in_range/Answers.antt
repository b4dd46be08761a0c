use Rattle.dates.specs.Time.{in_range}
use borrow.Author.Tests.{le-leb, lt-leb}
use Rattle.dates.proofs.in_range.Goals as goal

pub returns-then-minute-le59 : goal.returns-then-minute-le59
unfolding in_range
returns-then-minute-le59 c =
    simp (le-leb _ _ c.if-hour-le23.true, le-leb _ _ c.if-minute-le59.true)

pub returns-else-minute-le59 : goal.returns-else-minute-le59
unfolding in_range
returns-else-minute-le59 c =
    simp (le-leb _ _ c.if-hour-le23.true, lt-leb _ _ c.if-minute-le59.false)

pub returns-else-hour-le23 : goal.returns-else-hour-le23
unfolding in_range
returns-else-hour-le23 c = simp (lt-leb _ _ c.if-hour-le23.false)
