use borrow.Author.Tests.{eq-eqb, ne_eqb}
use Rattle.chars.specs.Pick.{pick}
use Rattle.strict.specs.LevelMatcher.{level_point}
use Rattle.strict.proofs.level_point.Goals as goal

pub returns-then-byte_at-eq45 : goal.returns-then-byte_at-eq45
unfolding level_point pick
returns-then-byte_at-eq45 c =
    simp (← c.byte_at-c.ensures, eq-eqb _ _ c.if-c-eq89.true, ← c.byte_at.ensures, eq-eqb _ _ c.if-byte_at-eq45.true, ← c.long_at.ensures)

pub returns-then-c-eq89 : goal.returns-then-c-eq89
unfolding level_point pick
returns-then-c-eq89 c =
    simp (← c.byte_at-c.ensures, eq-eqb _ _ c.if-c-eq89.true, ← c.byte_at.ensures, ne_eqb _ _ c.if-byte_at-eq45.false, ← c.long_at-then-c-eq89.ensures)

pub returns-then-c-eq45 : goal.returns-then-c-eq45
unfolding level_point pick
returns-then-c-eq45 c =
    simp (← c.byte_at-c.ensures, ne_eqb _ _ c.if-c-eq89.false, eq-eqb _ _ c.if-c-eq45.true, ← c.level_at.ensures)

pub returns : goal.returns
unfolding level_point pick
returns c =
    simp (← c.byte_at-c.ensures, ne_eqb _ _ c.if-c-eq89.false, ne_eqb _ _ c.if-c-eq45.false, ← c.level_at-2.ensures)
