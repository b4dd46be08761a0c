-- Signed numbers as the machine has them, taken apart once: what a remainder by a positive numeral asks, and what its test against zero says;
-- and that a difference fits. `mag z` is n both for n and for -(n + 1), and omega reads it as a number.
-- A signed local z is read as `to_z w (of_z w z)`; every law here starts by rewriting that to z.
use mathlib.Core.Path.{◌≡◌, refl, sym, ap, ◌∙◌}
use mathlib.Core.Bool.{Bool, true, false, false≢true}
use Prim.Native.Nat.{ℕ, zero, suc, ◌+◌, ◌-◌, ◌/◌, ◌%◌, ◌^◌, ◌≤◌, ◌<◌}
use native.Mathlib.Nat.{div-le_self, mod-lt, le_of_suc-le-suc, zero-add}
use native.Mathlib.Omega.{arith}
use lib.IntN.{ℤ, pos, negsuc, neg_ℤ, nat_abs, sub_ℕ, ◌+ℤ◌, ◌-ℤ◌}
use lib.Dec.{T, ltb, eqb, eqb-suc-zero}
use lib.Signed.{mag, lt_z, non_neg, quot_z, rem_z}
use mir.Syntax.{Width, w32, w64}
use mir.Val.{Fits, SFits, of_z, to_z}
use mir.ValLaws.{to_z-of_z, sfits_le}
use borrow.Author.Tests.{ne_eqb, ltb-true}

mag-neg : (r : ℕ) {a : ℕ} → r ≤ suc a → mag (neg_ℤ (pos r)) ≤ a
mag-neg zero h = omega arith
mag-neg (suc r) h = le_of_suc-le-suc h

mag-quot : (z : ℤ) (d : ℕ) → mag (quot_z z (pos d)) ≤ mag z
mag-quot (pos a) d = div-le_self a d
mag-quot (negsuc a) d = mag-neg (suc a / d) (div-le_self (suc a) d)

-- what `z % d` and `z / d` ask, for a numeral d above 0: the quotient fits
pub quot_fits : (z : ℤ) (d : ℕ) → SFits w32 z → SFits w32 (quot_z (to_z w32 (of_z w32 z)) (pos d))
quot_fits z d f = rw (to_z-of_z w32 z f) (sfits_le (mag-quot z d) f)

neg_bits : (r : ℕ) → r < 2 ^ 31 → eqb (of_z w32 (neg_ℤ (pos r))) 0 ≡ eqb r 0
neg_bits zero h = refl
neg_bits (suc r) h = ne_eqb (of_z w32 (neg_ℤ (pos (suc r)))) 0 (λ e. omega arith) ∙ sym (eqb-suc-zero r)

test : (z : ℤ) (d : ℕ) → 0 < d → d < 2 ^ 31 → eqb (of_z w32 (rem_z z (pos d))) 0 ≡ eqb (nat_abs z % d) 0
test (pos a) d lo hi = refl
test (negsuc a) d lo hi = neg_bits (suc a % d) (let h = mod-lt (suc a) {m = d} lo in omega arith)

-- what `z % d == 0` computes, for a numeral d: whether z's magnitude is a multiple of d
pub rem-test : (z : ℤ) (d : ℕ) → SFits w32 z → 0 < d → d < 2 ^ 31 → eqb (of_z w32 (rem_z (to_z w32 (of_z w32 z)) (pos d))) 0 ≡ eqb (nat_abs z % d) 0
rem-test z d f lo hi = rw (to_z-of_z w32 z f) (test z d lo hi)

-- a number of 32 bits at 64
pub widened : (z : ℤ) → SFits w32 z → SFits w64 z
widened z f = record { sfits = omega (arith, f.sfits) }

-- a local of 32 bits that is cast to 64: the cast's need, and its value
pub wide_fits : (z : ℤ) → SFits w32 z → SFits w64 (to_z w32 (of_z w32 z))
wide_fits z f = rw (to_z-of_z w32 z f) (widened z f)

pub wide : (z : ℤ) → SFits w32 z → to_z w64 (of_z w64 (to_z w32 (of_z w32 z))) ≡ z
wide z f = rw (to_z-of_z w32 z f) (to_z-of_z w64 z (widened z f))

-- a number below 0, negated, is its magnitude
negated : (z : ℤ) → lt_z z (pos 0) ≡ true → pos 0 -ℤ z ≡ pos (nat_abs z)
negated (pos n) t = absurd (let h = ltb-true n 0 t in omega arith)
negated (negsuc n) t = ap pos (zero-add (suc n))

small : (z : ℤ) → mag z < 2 ^ 31 → nat_abs z < 2 ^ 32
small (pos n) h = omega arith
small (negsuc n) h = omega arith

not-below : (z : ℤ) → lt_z z (pos 0) ≡ false → T (non_neg z)
not-below (pos n) e = tt
not-below (negsuc n) e = absurd (false≢true (sym e))

-- a local of 32 bits without its sign: negated at 64 bits if it is below 0, else cast
module _ (z : ℤ) (f : SFits w32 z) where
  pub fits-abs : Fits w32 (nat_abs z)
  fits-abs = record { fits = small z f.sfits }

  abs-fits : SFits w64 (pos (nat_abs z))
  abs-fits = record { sfits = let h = fits-abs.fits in omega arith }

  module _ (t : lt_z (to_z w32 (of_z w32 z)) (pos 0) ≡ true) where
    minus : pos 0 -ℤ to_z w64 (of_z w64 (to_z w32 (of_z w32 z))) ≡ pos (nat_abs z)
    minus = rw (wide z f) (negated z (rw (to_z-of_z w32 z f) at t))

    pub minus-fits : SFits w64 (pos 0 -ℤ to_z w64 (of_z w64 (to_z w32 (of_z w32 z))))
    minus-fits = rw minus abs-fits

    pub minus-read : to_z w64 (of_z w64 (pos 0 -ℤ to_z w64 (of_z w64 (to_z w32 (of_z w32 z))))) ≡ pos (nat_abs z)
    minus-read = rw minus (to_z-of_z w64 (pos (nat_abs z)) abs-fits)

  pub not_negative : lt_z (to_z w32 (of_z w32 z)) (pos 0) ≡ false → T (non_neg (to_z w32 (of_z w32 z))) × Fits w32 (nat_abs (to_z w32 (of_z w32 z)))
  not_negative t = rw (to_z-of_z w32 z f) (not-below z (rw (to_z-of_z w32 z f) at t), fits-abs)

-- the test `y < z` of two locals, of the numbers themselves
pub less-test : (w : Width) (y z : ℤ) → SFits w y → SFits w z → {t : Bool} → lt_z (to_z w (of_z w y)) (to_z w (of_z w z)) ≡ t → lt_z y z ≡ t
less-test w y z f g e = rw (to_z-of_z w y f, to_z-of_z w z g) at e

sub-mag : (a b : ℕ) → mag (sub_ℕ a b) ≤ a + b
sub-mag a b = go (ltb a b)
  where
    go : (t : Bool) → mag (mathlib.Core.Bool.cond t (negsuc (b - suc a)) (pos (a - b))) ≤ a + b
    go true = omega arith
    go false = omega arith

-- the magnitude of a sum
pub sum-mag : (a b : ℤ) → mag (a +ℤ b) ≤ mag a + mag b + 1
sum-mag (pos a) (pos b) = omega arith
sum-mag (pos a) (negsuc b) = let h = sub-mag a (suc b) in omega arith
sum-mag (negsuc a) (pos b) = let h = sub-mag b (suc a) in omega arith
sum-mag (negsuc a) (negsuc b) = omega arith

pub neg-mag : (z : ℤ) → mag (neg_ℤ z) ≤ mag z + 1
neg-mag (pos zero) = omega arith
neg-mag (pos (suc n)) = omega arith
neg-mag (negsuc n) = omega arith

-- and of a difference
pub difference-mag : (a b : ℤ) → mag (a -ℤ b) ≤ mag a + mag b + 2
difference-mag a b = let h = sum-mag a (neg_ℤ b) in let g = neg-mag b in omega arith
