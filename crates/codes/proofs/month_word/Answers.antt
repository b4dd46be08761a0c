use Rattle.codes.specs.Points.{month_point}
use Rattle.codes.specs.Words.{twos}
use Rattle.chars.specs.Pick.{pick}
use borrow.Author.Tests.{lt-ltb, le-ltb}
use borrow.Author.Rules.{rules}
use Rattle.codes.proofs.month_word.Goals as goal

pub returns-then-m-lt12 : goal.returns-then-m-lt12
unfolding month_point pick twos
returns-then-m-lt12 c =
    simp (← c.year-y.ensures, ← c.part_at-m.ensures, lt-ltb _ _ c.if-y-lt10000.true, lt-ltb _ _ c.if-m-lt12.true, ← c.with_month.ensures)

pub returns-else-m-lt12 : goal.returns-else-m-lt12
unfolding month_point pick twos
returns-else-m-lt12 c =
    simp (← c.year-y.ensures, ← c.part_at-m.ensures, lt-ltb _ _ c.if-y-lt10000.true, le-ltb _ _ c.if-m-lt12.false)

pub returns-else-y-lt10000 : goal.returns-else-y-lt10000
unfolding month_point pick twos
returns-else-y-lt10000 c =
    simp (← c.year-y.ensures, ← c.part_at-m.ensures, le-ltb _ _ c.if-y-lt10000.false)
