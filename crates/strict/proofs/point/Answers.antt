use Rattle.chars.specs.Pick.{pick}
use Rattle.strict.specs.Matcher.{point}
use borrow.Author.Tests.{eq-eqb, ne_eqb}
use Rattle.strict.proofs.point.Goals as goal

pub returns-then-byte_at-eq45 : goal.returns-then-byte_at-eq45
unfolding point pick
returns-then-byte_at-eq45 c =
    simp (← c.byte_at.ensures, eq-eqb _ _ c.if-byte_at-eq45.true, ← c.point_at.ensures)

pub returns : goal.returns
unfolding point pick
returns c =
    simp (← c.byte_at.ensures, ne_eqb _ _ c.if-byte_at-eq45.false, ← c.point_at-2.ensures)
