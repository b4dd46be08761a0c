use native.Mathlib.Omega.{arith}
use Rattle.datefield.specs.Text.{is_dots}
use borrow.Author.Tests.{eq-eqb, ne_eqb}
use Rattle.datefield.proofs.is_dots.Goals as goal

pub returns-then-s-eq46 : goal.returns-then-s-eq46
unfolding is_dots
returns-then-s-eq46 c =
    simp (eq-eqb _ _ c.if-s-eq2.true, eq-eqb _ _ c.if-s-eq46.true)

pub returns-else-s-eq46 : goal.returns-else-s-eq46
unfolding is_dots
returns-else-s-eq46 c =
    simp (eq-eqb _ _ c.if-s-eq2.true, ne_eqb _ _ c.if-s-eq46.false)

pub returns-else-s-eq2 : goal.returns-else-s-eq2
unfolding is_dots
returns-else-s-eq2 c = simp (ne_eqb _ _ c.if-s-eq2.false)
