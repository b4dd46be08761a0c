use Rattle.dates.specs.Time.{in_range}
use Rattle.dates.specs.Clocks.{clock_in}
use borrow.Author.Tests.{le-leb, lt-leb}
use borrow.Author.Rules.{rules}
use Rattle.dates.proofs.clock_in.Goals as goal

pub returns-then-t-le59-2 : goal.returns-then-t-le59-2
unfolding clock_in in_range
returns-then-t-le59-2 c =
    simp (le-leb _ _ c.if-t-le23.true, le-leb _ _ c.if-t-le59.true, le-leb _ _ c.if-t-le59-2.true, ← c.zone_in.ensures)

pub returns-else-t-le59-2 : goal.returns-else-t-le59-2
unfolding clock_in in_range
returns-else-t-le59-2 c =
    simp (le-leb _ _ c.if-t-le23.true, le-leb _ _ c.if-t-le59.true, lt-leb _ _ c.if-t-le59-2.false)

pub returns-else-t-le59 : goal.returns-else-t-le59
unfolding clock_in in_range
returns-else-t-le59 c =
    simp (le-leb _ _ c.if-t-le23.true, lt-leb _ _ c.if-t-le59.false)

pub returns-else-t-le23 : goal.returns-else-t-le23
unfolding clock_in in_range
returns-else-t-le23 c = simp (lt-leb _ _ c.if-t-le23.false)
