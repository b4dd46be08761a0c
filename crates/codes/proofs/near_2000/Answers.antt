use borrow.Author.Tests.{lt-ltb, le-ltb}
use Rattle.points.specs.Point.{windowed}
use Rattle.codes.specs.Words.{twos}
use Rattle.chars.specs.Pick.{pick}
use borrow.Author.Rules.{rules}
use Rattle.codes.proofs.near_2000.Goals as goal

pub returns-then-n-lt50 : goal.returns-then-n-lt50
unfolding windowed twos pick
returns-then-n-lt50 c =
    simp (lt-ltb _ _ c.if-n-lt50.true, c.wide_part.ensures)

pub returns : goal.returns
unfolding windowed twos pick
returns c =
    simp (le-ltb _ _ c.if-n-lt50.false, c.wide_part-2.ensures)
