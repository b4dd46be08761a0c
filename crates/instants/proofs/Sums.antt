-- A day's seconds and a time's, as the machine has them: that they fit, and that the local that holds them is them. Assumes nothing.
use mathlib.Core.Path.{◌≡◌}
use Prim.Native.Nat.{suc, ◌+◌, ◌*◌, ◌≤◌, ◌<◌}
use native.Mathlib.Omega.{arith}
use lib.IntN.{ℤ, pos, negsuc, ◌+ℤ◌, ◌*ℤ◌}
use lib.Signed.{mag}
use mir.Syntax.{w32, w64}
use mir.Val.{SFits, of_z, to_z}
use mir.ValLaws.{to_z-of_z}
use Rattle.dates.proofs.Signs.{wide, sum-mag, neg-mag}

product-mag : (z : ℤ) → mag (z *ℤ pos 86400) ≤ (mag z + 1) * 86400 + 1
product-mag (pos n) = omega arith
product-mag (negsuc n) = omega (arith, neg-mag (pos (suc n * 86400)))

module _ (day : ℤ) (f : SFits w32 day) where
  product-fits : SFits w64 (day *ℤ pos 86400)
  product-fits = record { sfits = omega (arith, product-mag day, f.sfits) }

  pub times-fits : SFits w64 (to_z w64 (of_z w64 (to_z w32 (of_z w32 day))) *ℤ pos 86400)
  times-fits = rw (wide day f) product-fits

  times : to_z w64 (of_z w64 (to_z w64 (of_z w64 (to_z w32 (of_z w32 day))) *ℤ pos 86400)) ≡ day *ℤ pos 86400
  times = rw (wide day f) (to_z-of_z w64 (day *ℤ pos 86400) product-fits)

  module _ (u : ℤ) (g : SFits w64 u) (h : mag u < 2000001) where
    both-fit : SFits w64 (day *ℤ pos 86400 +ℤ u)
    both-fit = record { sfits = omega (arith, sum-mag (day *ℤ pos 86400) u, product-mag day, f.sfits) }

    pub plus-fits : SFits w64 (to_z w64 (of_z w64 (to_z w64 (of_z w64 (to_z w32 (of_z w32 day))) *ℤ pos 86400)) +ℤ to_z w64 (of_z w64 u))
    plus-fits = rw (times, to_z-of_z w64 u g) both-fit

    pub plus : to_z w64 (of_z w64 (to_z w64 (of_z w64 (to_z w64 (of_z w64 (to_z w32 (of_z w32 day))) *ℤ pos 86400)) +ℤ to_z w64 (of_z w64 u))) ≡ day *ℤ pos 86400 +ℤ u
    plus = rw (times, to_z-of_z w64 u g) (to_z-of_z w64 (day *ℤ pos 86400 +ℤ u) both-fit)
