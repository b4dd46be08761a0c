use Rattle.numbers.specs.declared.Digits.TheVariants.{Two}
use Rattle.numbers.proofs.Laws.{mag-abs, int-below}
use native.Mathlib.Omega.{arith}
use mathlib.Core.Path.{◌∙◌, sym}
use mir.ValLaws.{to_z-of_z}
use mir.Syntax.{w32}
use Rattle.points.proofs.short_year.Goals as goal

pub window-requires : goal.window-requires
window-requires c =
    let z = c.in_ok-value.value in
    let y = to_z-of_z w32 z (record { sfits = c.in_ok-value.known_told-1-own.given.0.1.1.0.1 }) in
    rw y (omega (arith, mag-abs z, int-below _ _ Two (sym c.int_of.ensures ∙ c.in_ok-value.was)))
