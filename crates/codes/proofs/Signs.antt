-- A year in two's complement. Assumes nothing.
use mathlib.Core.Path.{◌≡◌, refl, sym}
use mathlib.Core.Bool.{true, false, false≢true}
use Prim.Native.Nat.{◌-◌, ◌<◌}
use native.Mathlib.Omega.{arith}
use lib.IntN.{ℤ, pos, negsuc, nat_abs}
use lib.Signed.{lt_z}
use borrow.Author.Tests.{ltb-true}
use Rattle.codes.specs.Words.{twos}

-- a year below 0
pub below : (y : ℤ) → lt_z y (pos 0) ≡ true → (0 < nat_abs y) × (4294967295 - (nat_abs y - 1) ≡ twos y)
unfolding twos
below (pos n) t = absurd (let h = ltb-true n 0 t in omega arith)
below (negsuc n) t = (omega arith, omega arith)

-- and another
pub above : (y : ℤ) → lt_z y (pos 0) ≡ false → nat_abs y ≡ twos y
unfolding twos
above (pos n) t = refl
above (negsuc n) t = absurd (false≢true (sym t))
