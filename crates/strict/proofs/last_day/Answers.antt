use mathlib.Core.Path.{◌≡◌, ap}
use native.Mathlib.Omega.{arith}
use Prim.Native.Nat.{ℕ, ◌-◌}
use lib.IntN.{ℤ, pos}
use mir.Syntax.{w32}
use mir.Val.{SFits, of_z, to_z}
use mir.ValLaws.{to_z-of_z}
use Rattle.dates.specs.Calendar.{month_length}
use Rattle.dates.proofs.Months.{some-day}
use Rattle.strict.specs.Grammar.{last_day}
use Rattle.chars.specs.Signs.{signed}
use Rattle.strict.proofs.last_day.Goals as goal

-- the length that the call gave, of a year that went through a cast
length-is : (m : ℕ) {l n : ℕ} {y : ℤ} → SFits w32 y → y ≡ pos n → l ≡ month_length m (to_z w32 (of_z w32 y)) → l ≡ month_length m (pos n)
length-is m {y = y} f e h = rw (to_z-of_z w32 y f, e) at h

pub overflow_sub-result : goal.overflow_sub-result
unfolding signed
overflow_sub-result c =
    let a = c.args in
    let s = c.signed in
    omega (arith, length-is a.month.0 (record { sfits = s.type_inv }) s.ensures c.days_in_month.ensures, some-day a.month.0 (pos a.n) (omega arith))

pub returns : goal.returns
unfolding last_day signed
returns c =
    let m = c.args.month.0 in
    let s = c.signed in
    ap (λ (l : ℕ). l - 1) (length-is m (record { sfits = s.type_inv }) s.ensures c.days_in_month.ensures)
