use Rattle.chars.specs.Pick.{pick}
use Rattle.codes.specs.Unpacked.{value_in}
use borrow.Author.Tests.{eq-eqb, ne_eqb}
use borrow.Author.Rules.{rules}
use Rattle.codes.proofs.value_back.Goals as goal

pub returns-then-shape-eq0 : goal.returns-then-shape-eq0
unfolding value_in pick
returns-then-shape-eq0 c =
    simp (← c.datetime_back-first.ensures, eq-eqb _ _ c.if-shape-eq0.true)

pub returns-then-shape-eq1 : goal.returns-then-shape-eq1
unfolding value_in pick
returns-then-shape-eq1 c =
    simp (← c.datetime_back-first.ensures, ne_eqb _ _ c.if-shape-eq0.false, eq-eqb _ _ c.if-shape-eq1.true)

pub returns-then-shape-eq2 : goal.returns-then-shape-eq2
unfolding value_in pick
returns-then-shape-eq2 c =
    simp (← c.datetime_back-first.ensures, ne_eqb _ _ c.if-shape-eq0.false, ne_eqb _ _ c.if-shape-eq1.false, eq-eqb _ _ c.if-shape-eq2.true)

pub returns : goal.returns
unfolding value_in pick
returns c =
    simp (← c.datetime_back-first.ensures, ne_eqb _ _ c.if-shape-eq0.false, ne_eqb _ _ c.if-shape-eq1.false, ne_eqb _ _ c.if-shape-eq2.false, ← c.datetime_back.ensures)
