use Rattle.chars.specs.Pick.{pick}
use Rattle.knobstream.specs.Back.{date_value}
use borrow.Author.Tests.{eq-eqb, ne_eqb}
use borrow.Author.Rules.{rules}
use Rattle.knobstream.proofs.times.timed_value.Goals as goal

pub returns-then-shape-eq0 : goal.returns-then-shape-eq0
unfolding date_value pick
returns-then-shape-eq0 c =
    simp (eq-eqb _ _ c.if-shape-eq0.true, ← c.datetime_of.ensures)

pub returns-then-shape-eq1 : goal.returns-then-shape-eq1
unfolding date_value pick
returns-then-shape-eq1 c =
    simp (ne_eqb _ _ c.if-shape-eq0.false, eq-eqb _ _ c.if-shape-eq1.true, ← c.datetime_of-then-shape-eq1.ensures)

pub returns-then-shape-eq2 : goal.returns-then-shape-eq2
unfolding date_value pick
returns-then-shape-eq2 c =
    simp (ne_eqb _ _ c.if-shape-eq0.false, ne_eqb _ _ c.if-shape-eq1.false, eq-eqb _ _ c.if-shape-eq2.true, ← c.datetime_of-then-shape-eq2.ensures)

pub returns : goal.returns
unfolding date_value pick
returns c =
    simp (ne_eqb _ _ c.if-shape-eq0.false, ne_eqb _ _ c.if-shape-eq1.false, ne_eqb _ _ c.if-shape-eq2.false, ← c.datetime_of-2.ensures, ← c.datetime_of-3.ensures)
