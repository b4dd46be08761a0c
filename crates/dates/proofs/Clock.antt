-- Seconds with a sign, at 64 bits: that they fit, and that the local that holds them is them. Each part is below a million.
-- Assumes nothing.
use mathlib.Core.Path.{◌≡◌, ap}
use mathlib.Core.Bool.{Bool, true, false}
use Prim.Native.Nat.{ℕ, zero, suc, ◌<◌}
use native.Mathlib.Omega.{arith}
use lib.IntN.{ℤ, pos, neg_ℤ, ◌-ℤ◌, +ℤ_idl}
use lib.Signed.{mag}
use mir.Syntax.{w64}
use mir.Val.{SFits, of_z, to_z}
use mir.ValLaws.{to_z-of_z, to_z_pos}
use Rattle.dates.specs.declared.TimeOffset.{TimeOffset}
use Rattle.dates.specs.declared.TimeOffset.TheVariants.{Offset}
use Rattle.dates.specs.Time.{seconds, ahead_or_behind, offset_seconds}
use Rattle.dates.proofs.Signs.{difference-mag}

-- a difference of two numbers below a million
pub less-fits : (a b : ℤ) → mag a < 1000000 → mag b < 1000000 → SFits w64 (a -ℤ b)
less-fits a b h k = record { sfits = let g = difference-mag a b in omega arith }

-- a number of seconds that was cast
pub cast : (n : ℕ) → n < 1000000 → to_z w64 n ≡ pos n
cast n h = to_z_pos w64 n (omega arith)

small : (n : ℕ) → n < 1000000 → mag (neg_ℤ (pos n)) < 1000000
small zero h = h
small (suc n) h = omega arith

-- behind UTC, the code takes the seconds from zero
pub behind-fits : (n : ℕ) → n < 1000000 → SFits w64 (pos 0 -ℤ to_z w64 n)
behind-fits n h = rw (cast n h) (less-fits (pos 0) (pos n) (omega arith) h)

-- an offset of n seconds, ahead or behind
module _ {o : TimeOffset} {b : Bool} {hours minutes n : ℕ} (is : o ≡ Offset b hours minutes) (en : n ≡ seconds hours minutes 0) (h : n < 1000000) where
  pub ahead : b ≡ true → (to_z w64 n ≡ offset_seconds o) × (mag (to_z w64 n) < 1000000)
  unfolding offset_seconds ahead_or_behind
  ahead e = rw (cast n h, is, e) (ap pos en, h)

  pub behind : b ≡ false → (to_z w64 (of_z w64 (pos 0 -ℤ to_z w64 n)) ≡ offset_seconds o) × (mag (to_z w64 (of_z w64 (pos 0 -ℤ to_z w64 n))) < 1000000)
  unfolding offset_seconds ahead_or_behind
  behind e =
      rw (to_z-of_z w64 (pos 0 -ℤ to_z w64 n) (behind-fits n h), cast n h, +ℤ_idl (neg_ℤ (pos n)), is, e)
      (ap (λ (m : ℕ). neg_ℤ (pos m)) en, small n h)

-- the difference of a time and its offset, which came from calls
module _ (n : ℕ) (h : n < 1000000) (z : ℤ) (f : SFits w64 z) (k : mag z < 1000000) where
  pub utc-fits : SFits w64 (to_z w64 n -ℤ to_z w64 (of_z w64 z))
  utc-fits = rw (cast n h, to_z-of_z w64 z f) (less-fits (pos n) z h k)

  pub utc : to_z w64 (of_z w64 (to_z w64 n -ℤ to_z w64 (of_z w64 z))) ≡ pos n -ℤ z
  utc = rw (to_z-of_z w64 (to_z w64 n -ℤ to_z w64 (of_z w64 z)) utc-fits, cast n h, to_z-of_z w64 z f)

  pub utc-small : mag (to_z w64 (of_z w64 (to_z w64 n -ℤ to_z w64 (of_z w64 z)))) < 2000001
  utc-small = rw utc (let g = difference-mag (pos n) z in omega arith)
