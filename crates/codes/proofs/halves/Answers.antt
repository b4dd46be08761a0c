use Rattle.codes.specs.Points.{point_of}
use Rattle.codes.specs.Texts.{halves}
use Rattle.chars.specs.Pick.{pick}
use mathlib.Core.Path.{refl}
use Rattle.codes.proofs.Laws.{plain-point, one_side, two-sides}
use Rattle.dates.specs.declared.DateValue.TheVariants.{After, Before}
use borrow.Author.Rules.{rules}
use Rattle.codes.proofs.halves.Goals as goal

pub returns-then-is_dots : goal.returns-then-is_dots
unfolding halves pick
returns-then-is_dots c =
    let a = c.args in
    let l = one_side (point_of a.b.now) (plain-point a.b.now) Before 2 a.marks (λ d. refl) c.point.ensures c.one.ensures.value c.one.ensures.value_2 in
    simp (← c.is_dots.ensures, c.if-is_dots.true, ← l)

pub returns-then-is_dots-2 : goal.returns-then-is_dots-2
unfolding halves pick
returns-then-is_dots-2 c =
    let a = c.args in
    let l = one_side (point_of a.a.now) (plain-point a.a.now) After 1 a.marks (λ d. refl) c.point-then-is_dots-2.ensures c.one-then-is_dots-2.ensures.value c.one-then-is_dots-2.ensures.value_2 in
    simp (← c.is_dots.ensures, c.if-is_dots.false, ← c.is_dots-2.ensures, c.if-is_dots-2.true, ← l)

pub returns : goal.returns
unfolding halves pick
returns c =
    let a = c.args in
    let l = two-sides (point_of a.a.now) (point_of a.b.now) (plain-point a.a.now) (plain-point a.b.now) a.marks c.point-2.ensures c.point-3.ensures c.both.ensures.value c.both.ensures.value_2 c.both.ensures.value_3 in
    simp (← c.is_dots.ensures, c.if-is_dots.false, ← c.is_dots-2.ensures, c.if-is_dots-2.false, ← l)
