use Rattle.codes.specs.Points.{four_of}
use Rattle.chars.specs.Pick.{pick}
use borrow.Author.Tests.{lt-ltb, le-ltb}
use borrow.Author.Rules.{rules}
use Rattle.codes.proofs.four.Goals as goal

pub returns-then-low-lt100 : goal.returns-then-low-lt100
unfolding four_of pick
returns-then-low-lt100 c =
    simp (← c.two-high.ensures.0, ← c.two-low.ensures.0, lt-ltb _ _ c.if-high-lt100.true, lt-ltb _ _ c.if-low-lt100.true, c.wide.ensures, c.wide-then-low-lt100.ensures)

pub returns-else-low-lt100 : goal.returns-else-low-lt100
unfolding four_of pick
returns-else-low-lt100 c =
    simp (← c.two-high.ensures.0, ← c.two-low.ensures.0, lt-ltb _ _ c.if-high-lt100.true, le-ltb _ _ c.if-low-lt100.false)

pub returns-else-high-lt100 : goal.returns-else-high-lt100
unfolding four_of pick
returns-else-high-lt100 c =
    simp (← c.two-high.ensures.0, ← c.two-low.ensures.0, le-ltb _ _ c.if-high-lt100.false)
