use native.Mathlib.Omega.{arith}
use Rattle.codes.specs.Points.{year_point}
use Rattle.codes.specs.Words.{twos}
use Rattle.chars.specs.Pick.{pick}
use borrow.Author.Tests.{lt-ltb, le-ltb}
use borrow.Author.Rules.{rules}
use Rattle.codes.proofs.year_word.Goals as goal

pub returns-then-y-lt10000 : goal.returns-then-y-lt10000
unfolding year_point pick twos
returns-then-y-lt10000 c =
    simp (← c.year-y.ensures, lt-ltb _ _ c.if-y-lt10000.true) (omega arith)

pub returns : goal.returns
unfolding year_point pick twos
returns c =
    simp (← c.year-y.ensures, le-ltb _ _ c.if-y-lt10000.false)
