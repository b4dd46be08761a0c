use mathlib.Core.Bool.{true, false}
use Rattle.codes.proofs.Laws.{shifted}
use Rattle.codes.specs.Points.{shift_by, zone_of}
use Rattle.chars.specs.Pick.{pick}
use borrow.Author.Tests.{eq-eqb, ne_eqb}
use borrow.Author.Rules.{rules}
use Rattle.codes.proofs.zone.Goals as goal

pub returns-then-n-eq19 : goal.returns-then-n-eq19
unfolding zone_of shift_by pick
returns-then-n-eq19 c = simp (eq-eqb _ _ c.if-n-eq19.true)

pub returns-then-b-eq90 : goal.returns-then-b-eq90
unfolding zone_of shift_by pick
returns-then-b-eq90 c =
    simp (ne_eqb _ _ c.if-n-eq19.false, eq-eqb _ _ c.if-n-eq20.true, eq-eqb _ _ c.if-b-eq90.true)

pub returns-then-n-eq20 : goal.returns-then-n-eq20
unfolding zone_of shift_by pick
returns-then-n-eq20 c =
    simp (ne_eqb _ _ c.if-n-eq19.false, eq-eqb _ _ c.if-n-eq20.true, ne_eqb _ _ c.if-b-eq90.false)

pub returns-then-b-eq43 : goal.returns-then-b-eq43
unfolding zone_of pick
returns-then-b-eq43 c =
    simp (ne_eqb _ _ c.if-n-eq19.false, ne_eqb _ _ c.if-n-eq20.false, eq-eqb _ _ c.if-n-eq25.true, eq-eqb _ _ c.if-b-eq43.true, c.shift.ensures, shifted true c.args.s.now)

pub returns-then-b-eq45 : goal.returns-then-b-eq45
unfolding zone_of pick
returns-then-b-eq45 c =
    simp (ne_eqb _ _ c.if-n-eq19.false, ne_eqb _ _ c.if-n-eq20.false, eq-eqb _ _ c.if-n-eq25.true, ne_eqb _ _ c.if-b-eq43.false, eq-eqb _ _ c.if-b-eq45.true, c.shift-then-b-eq45.ensures, shifted false c.args.s.now)

pub returns-else-b-eq45 : goal.returns-else-b-eq45
unfolding zone_of shift_by pick
returns-else-b-eq45 c =
    simp (ne_eqb _ _ c.if-n-eq19.false, ne_eqb _ _ c.if-n-eq20.false, eq-eqb _ _ c.if-n-eq25.true, ne_eqb _ _ c.if-b-eq43.false, ne_eqb _ _ c.if-b-eq45.false)

pub returns-else-n-eq25 : goal.returns-else-n-eq25
unfolding zone_of shift_by pick
returns-else-n-eq25 c =
    simp (ne_eqb _ _ c.if-n-eq19.false, ne_eqb _ _ c.if-n-eq20.false, ne_eqb _ _ c.if-n-eq25.false)
