use mathlib.Core.Bool.{true, false, Bool}
use native.Mathlib.Omega.{arith}
use mathlib.Core.Path.{sym, ap, ◌∙◌, ◌≡◌}
use Rattle.points.specs.Point.{windowed}
use Rattle.chars.specs.Pick.{pick}
use Rattle.numbers.proofs.Sums.{added-fits, added}
use lib.Signed.{lt_z}
use lib.IntN.{pos, ◌+ℤ◌}
use mir.ValLaws.{to_z-of_z}
use mir.Syntax.{w32}
use Rattle.points.proofs.window.Goals as goal

pub overflow_add-result : goal.overflow_add-result
overflow_add-result c = added-fits c.args.year 2000 c.ranges.year (omega arith)

pub overflow_add-result-else-year-lt50 : goal.overflow_add-result-else-year-lt50
overflow_add-result-else-year-lt50 c = added-fits c.args.year 1900 c.ranges.year (omega arith)

pub returns-then-year-lt50 : goal.returns-then-year-lt50
unfolding windowed pick
returns-then-year-lt50 c =
    let y = c.args.year in
    let f = c.ranges.year in
    let t : lt_z y (pos 50) ≡ true = rw (to_z-of_z w32 y f) at c.if-year-lt50.true in
    added y 2000 f (omega arith) ∙ ap (λ (b : Bool). pick b (y +ℤ pos 2000) (y +ℤ pos 1900)) (sym t)

pub returns-else-year-lt50 : goal.returns-else-year-lt50
unfolding windowed pick
returns-else-year-lt50 c =
    let y = c.args.year in
    let f = c.ranges.year in
    let t : lt_z y (pos 50) ≡ false = rw (to_z-of_z w32 y f) at c.if-year-lt50.false in
    added y 1900 f (omega arith) ∙ ap (λ (b : Bool). pick b (y +ℤ pos 2000) (y +ℤ pos 1900)) (sym t)
