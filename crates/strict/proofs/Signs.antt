-- A number of 16 bits, cast to one of 32 with a sign, and its negation. Assumes nothing.
use mathlib.Core.Path.{◌≡◌}
use Prim.Native.Nat.{ℕ, zero, suc, ◌^◌, ◌≤◌, ◌<◌}
use native.Mathlib.Omega.{arith}
use lib.IntN.{pos, neg_ℤ, ◌-ℤ◌, +ℤ_idl}
use lib.Signed.{mag}
use mir.Syntax.{w32}
use mir.Val.{SFits, of_z, to_z}
use mir.ValLaws.{to_z-of_z, to_z_pos}

neg-mag : (n : ℕ) → mag (neg_ℤ (pos n)) ≤ n
neg-mag zero = omega arith
neg-mag (suc n) = omega arith

module _ (n : ℕ) (h : n < 2 ^ 31) where
  pub cast : to_z w32 n ≡ pos n
  cast = to_z_pos w32 n h

  fits : SFits w32 (neg_ℤ (pos n))
  fits = record { sfits = let g = neg-mag n in omega arith }

  pub negated_fits : SFits w32 (pos 0 -ℤ to_z w32 n)
  negated_fits = rw (cast, +ℤ_idl (neg_ℤ (pos n))) fits

  pub negated : to_z w32 (of_z w32 (pos 0 -ℤ to_z w32 n)) ≡ neg_ℤ (pos n)
  negated = rw (cast, +ℤ_idl (neg_ℤ (pos n))) (to_z-of_z w32 (neg_ℤ (pos n)) fits)
