-- Sums of 32-bit signed numbers: that one fits, from a bound in ℕ, and that the local that holds it is it.
-- `mag z` is n both for n and for -(n + 1); omega reads it as a number. Assumes nothing.
use mathlib.Core.Path.{◌≡◌}
use mathlib.Core.Bool.{Bool, true, false}
use Prim.Native.Nat.{ℕ, zero, suc, ◌+◌, ◌-◌, ◌^◌, ◌≤◌, ◌<◌}
use native.Mathlib.Omega.{arith}
use lib.Dec.{ltb}
use lib.IntN.{ℤ, pos, negsuc, neg_ℤ, sub_ℕ, ◌+ℤ◌, ◌-ℤ◌}
use lib.Signed.{mag}
use mir.Syntax.{w32}
use mir.Val.{SFits, of_z, to_z}
use mir.ValLaws.{to_z-of_z, to_z_pos}

sub-mag : (a b : ℕ) → mag (sub_ℕ a b) ≤ a + b
sub-mag a b = go (ltb a b)
  where
    go : (t : Bool) → mag (mathlib.Core.Bool.cond t (negsuc (b - suc a)) (pos (a - b))) ≤ a + b
    go true = omega arith
    go false = omega arith

pub sum-mag : (a b : ℤ) → mag (a +ℤ b) ≤ mag a + mag b + 1
sum-mag (pos a) (pos b) = omega arith
sum-mag (pos a) (negsuc b) = let h = sub-mag a (suc b) in omega arith
sum-mag (negsuc a) (pos b) = let h = sub-mag b (suc a) in omega arith
sum-mag (negsuc a) (negsuc b) = omega arith

neg-mag : (n : ℕ) → mag (neg_ℤ (pos n)) ≤ n
neg-mag zero = omega arith
neg-mag (suc n) = omega arith

pub sum_fits : (a b : ℤ) → mag a + mag b + 1 < 2 ^ 31 → SFits w32 (a +ℤ b)
sum_fits a b h = record { sfits = let g = sum-mag a b in omega arith }

pub difference-fits : (k n : ℕ) → k + n + 1 < 2 ^ 31 → SFits w32 (pos k -ℤ pos n)
difference-fits k n h = sum_fits (pos k) (neg_ℤ (pos n)) (let g = neg-mag n in omega arith)

-- of a local y that the code adds k to
module _ (y : ℤ) (k : ℕ) (f : SFits w32 y) (h : mag y + k + 1 < 2 ^ 31) where
  pub added-fits : SFits w32 (to_z w32 (of_z w32 y) +ℤ pos k)
  added-fits = rw (to_z-of_z w32 y f) (sum_fits y (pos k) h)

  pub added : to_z w32 (of_z w32 (to_z w32 (of_z w32 y) +ℤ pos k)) ≡ y +ℤ pos k
  added = rw (to_z-of_z w32 y f) (to_z-of_z w32 (y +ℤ pos k) (sum_fits y (pos k) h))

-- of a number n, cast, that the code takes from k
module _ (k n : ℕ) (h : k + n + 1 < 2 ^ 31) where
  pub cast : to_z w32 n ≡ pos n
  cast = to_z_pos w32 n (omega arith)

  pub taken-fits : SFits w32 (pos k -ℤ to_z w32 n)
  taken-fits = rw cast (difference-fits k n h)

  pub taken : to_z w32 (of_z w32 (pos k -ℤ to_z w32 n)) ≡ pos k -ℤ pos n
  taken = rw cast (to_z-of_z w32 (pos k -ℤ pos n) (difference-fits k n h))
