use Rattle.codes.specs.Points.{point_of}
use Rattle.chars.specs.Pick.{pick}
use borrow.Author.Tests.{eq-eqb, ne_eqb}
use borrow.Author.Rules.{rules}
use Rattle.codes.proofs.point.Goals as goal

pub returns-then-n-eq4 : goal.returns-then-n-eq4
unfolding point_of pick
returns-then-n-eq4 c =
    simp (eq-eqb _ _ c.if-n-eq4.true, ← c.year_word.ensures)

pub returns-then-n-eq7 : goal.returns-then-n-eq7
unfolding point_of pick
returns-then-n-eq7 c =
    simp (ne_eqb _ _ c.if-n-eq4.false, eq-eqb _ _ c.if-n-eq7.true, ← c.month_word.ensures)

pub returns-then-n-eq10 : goal.returns-then-n-eq10
unfolding point_of pick
returns-then-n-eq10 c =
    simp (ne_eqb _ _ c.if-n-eq4.false, ne_eqb _ _ c.if-n-eq7.false, eq-eqb _ _ c.if-n-eq10.true, ← c.day_word.ensures)

pub returns : goal.returns
unfolding point_of pick
returns c =
    simp (ne_eqb _ _ c.if-n-eq4.false, ne_eqb _ _ c.if-n-eq7.false, ne_eqb _ _ c.if-n-eq10.false)
