use Rattle.chars.specs.Pick.{pick}
use Rattle.strict.specs.Matcher.{offset_at}
use borrow.Author.Tests.{eq-eqb, ne_eqb}
use Rattle.strict.proofs.offset_at.Goals as goal

pub returns-then-c-eq90 : goal.returns-then-c-eq90
unfolding offset_at pick
returns-then-c-eq90 c =
    simp (← c.byte_at-c.ensures, eq-eqb _ _ c.if-c-eq90.true)

pub returns-then-c-eq43 : goal.returns-then-c-eq43
unfolding offset_at pick
returns-then-c-eq43 c =
    simp (← c.byte_at-c.ensures, ne_eqb _ _ c.if-c-eq90.false, eq-eqb _ _ c.if-c-eq43.true, ← c.shift_at.ensures)

pub returns : goal.returns
unfolding offset_at pick
returns c =
    simp (← c.byte_at-c.ensures, ne_eqb _ _ c.if-c-eq90.false, ne_eqb _ _ c.if-c-eq43.false, ← c.shift_at-2.ensures)
