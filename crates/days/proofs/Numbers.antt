-- Years and days with their signs: which years are counted, and the numbers of days counted from -10000-01-01, as the machine has them.
-- Assumes nothing.
use mathlib.Core.Path.{◌≡◌, refl, sym, ap, ◌∙◌}
use mathlib.Core.Bool.{Bool, true, false, false≢true}
use Prim.Native.Nat.{ℕ, suc, ◌+◌, ◌-◌, ◌≤◌, ◌<◌}
use native.Mathlib.Omega.{arith}
use native.Mathlib.Decide.{dec_lt}
use lib.Dec.{T, ltb}
use lib.IntN.{ℤ, pos, negsuc, neg_ℤ, nat_abs, ◌+ℤ◌, ◌-ℤ◌, +ℤ_idl, +ℤ_assoc, +ℤ_comm, +ℤ_invr, neg_ℤ-+ℤ, +ℤ-neg_ℤ_cancel}
use lib.Signed.{mag, lt_z, non_neg, ◌≤ℤ◌, lt_z_no}
use mir.Syntax.{w32}
use mir.Val.{Fits, SFits, of_z, to_z}
use mir.ValLaws.{to_z-of_z, to_z_pos}
use borrow.Author.Tests.{lt-ltb, le-ltb, ltb-true, ltb-false}
use Rattle.dates.proofs.Signs.{sum-mag, difference-mag}
use Rattle.days.specs.Covered.{year_in}
use Rattle.days.specs.Counts.{counted, numbered}

-- the two tests of a year
above : (z : ℤ) → lt_z (negsuc 9999) z ≡ true → lt_z z (pos 10000) ≡ year_in z
unfolding year_in
above (pos n) t = refl
above (negsuc n) t = sym (lt-ltb (suc n) 10000 (omega (arith, ltb-true n 9999 t)))

below : (z : ℤ) → lt_z (negsuc 9999) z ≡ false → lt_z (negsuc 9999) z ≡ year_in z
unfolding year_in
below (pos n) t = absurd (false≢true (sym t))
below (negsuc n) t = t ∙ sym (le-ltb (suc n) 10000 (omega (arith, ltb-false n 9999 t)))

module _ (z : ℤ) (f : SFits w32 z) where
  pub above-test : lt_z (negsuc 9999) (to_z w32 (of_z w32 z)) ≡ true → lt_z (to_z w32 (of_z w32 z)) (pos 10000) ≡ year_in z
  above-test t = rw (to_z-of_z w32 z f) (above z (rw (to_z-of_z w32 z f) at t))

  pub below-test : lt_z (negsuc 9999) (to_z w32 (of_z w32 z)) ≡ false → lt_z (negsuc 9999) (to_z w32 (of_z w32 z)) ≡ year_in z
  below-test t = rw (to_z-of_z w32 z f) (below z (rw (to_z-of_z w32 z f) at t))

-- a year, counted from -10000
pub counted-pos : (n : ℕ) → counted (pos n) ≡ n + 10000
unfolding counted
counted-pos n = refl

pub counted-neg : (n : ℕ) → n < 9999 → counted (negsuc n) ≡ 10000 - suc n
unfolding counted
counted-neg n h = rw (le-ltb 10000 (suc n) (omega arith))

pub year-pos : (n : ℕ) → year_in (pos n) ≡ true → n < 10000
unfolding year_in
year-pos n t = ltb-true n 10000 t

pub year-neg : (n : ℕ) → year_in (negsuc n) ≡ true → n < 9999
unfolding year_in
year-neg n t = omega (arith, ltb-true (suc n) 10000 t)

pub counted-in : (y : ℤ) → year_in y ≡ true → (0 < counted y) × (counted y < 20000)
counted-in (pos n) t = rw (counted-pos n) (omega arith, omega (arith, year-pos n t))
counted-in (negsuc n) t = rw (counted-neg n (year-neg n t)) (omega (arith, year-neg n t), omega arith)

small : (y : ℤ) → year_in y ≡ true → mag y < 10000
small (pos n) t = year-pos n t
small (negsuc n) t = omega (arith, year-neg n t)

not-below : (y : ℤ) → year_in y ≡ true → T (non_neg (y +ℤ pos 10000))
not-below (pos n) t = tt
not-below (negsuc n) t = rw (le-ltb 10000 (suc n) (omega (arith, year-neg n t))) tt

-- of a local y, to which the code adds 10000
module _ (y : ℤ) (f : SFits w32 y) (t : year_in y ≡ true) where
  sum_fits : SFits w32 (y +ℤ pos 10000)
  sum_fits = record { sfits = omega (arith, sum-mag y (pos 10000), small y t) }

  pub added-fits : SFits w32 (to_z w32 (of_z w32 y) +ℤ pos 10000)
  added-fits = rw (to_z-of_z w32 y f) sum_fits

  pub added : to_z w32 (of_z w32 (to_z w32 (of_z w32 y) +ℤ pos 10000)) ≡ y +ℤ pos 10000
  added = rw (to_z-of_z w32 y f) (to_z-of_z w32 (y +ℤ pos 10000) sum_fits)

  abs-fits : Fits w32 (nat_abs (y +ℤ pos 10000))
  unfolding counted
  abs-fits = record { fits = omega (arith, (counted-in y t).1) }

  pub cast_fits : T (non_neg (to_z w32 (of_z w32 (to_z w32 (of_z w32 y) +ℤ pos 10000)))) × Fits w32 (nat_abs (to_z w32 (of_z w32 (to_z w32 (of_z w32 y) +ℤ pos 10000))))
  cast_fits = rw added (not-below y t, abs-fits)

  pub cast : nat_abs (to_z w32 (of_z w32 (to_z w32 (of_z w32 y) +ℤ pos 10000))) ≡ counted y
  unfolding counted
  cast = ap nat_abs added

-- of a number n, cast, from which the code takes another
module _ (n k : ℕ) (h : n < 8001000) (l : k < 8001000) where
  number : to_z w32 n ≡ pos n
  number = to_z_pos w32 n (omega arith)

  less-fits : SFits w32 (pos n -ℤ pos k)
  less-fits = record { sfits = omega (arith, difference-mag (pos n) (pos k)) }

  pub taken-fits : SFits w32 (to_z w32 n -ℤ pos k)
  taken-fits = rw number less-fits

  taken_is : to_z w32 (of_z w32 (to_z w32 n -ℤ pos k)) ≡ pos n -ℤ pos k
  taken_is = rw number (to_z-of_z w32 (pos n -ℤ pos k) less-fits)

-- those of 25 cycles
pub taken : (n : ℕ) → n < 8001000 → to_z w32 (of_z w32 (to_z w32 n -ℤ pos 3652425)) ≡ numbered n
unfolding numbered
taken n h = taken_is n 3652425 h (omega arith)

-- some days further
pub numbered-on : (a k : ℕ) → numbered a +ℤ pos k ≡ numbered (a + k)
unfolding numbered
numbered-on a k =
    +ℤ_assoc (pos a) (neg_ℤ (pos 3652425)) (pos k)
    ∙ ap (λ (z : ℤ). pos a +ℤ z) (+ℤ_comm (neg_ℤ (pos 3652425)) (pos k))
    ∙ sym (+ℤ_assoc (pos a) (pos k) (neg_ℤ (pos 3652425)))

-- from day 0 on, and before it
pub numbered-pos : (a : ℕ) → numbered (a + 3652425) ≡ pos a
unfolding numbered
numbered-pos a = +ℤ-neg_ℤ_cancel (pos a) (pos 3652425)

less : (a b : ℕ) → pos a -ℤ pos (a + b) ≡ neg_ℤ (pos b)
less a b =
    ap (λ (z : ℤ). pos a +ℤ z) (neg_ℤ-+ℤ (pos a) (pos b))
    ∙ sym (+ℤ_assoc (pos a) (neg_ℤ (pos a)) (neg_ℤ (pos b)))
    ∙ ap (λ (z : ℤ). z +ℤ neg_ℤ (pos b)) (+ℤ_invr (pos a))
    ∙ +ℤ_idl (neg_ℤ (pos b))

pub numbered-neg : (a b : ℕ) → a + b ≡ 3652425 → numbered a ≡ neg_ℤ (pos b)
unfolding numbered
numbered-neg a b e = ap (λ (k : ℕ). pos a -ℤ pos k) (sym e) ∙ less a b

early : (a : ℕ) → a < 3652425 → numbered a ≡ negsuc (3652425 - suc a)
unfolding numbered
early a h = rw (lt-ltb a 3652425 h)

late : (a : ℕ) → 3652425 ≤ a → numbered a ≡ pos (a - 3652425)
unfolding numbered
late a h = rw (le-ltb a 3652425 h)

ltb-same : (a b c d : ℕ) → (a < b → c < d) → (b ≤ a → d ≤ c) → ltb c d ≡ ltb a b
ltb-same a b c d f g = go (ltb a b) refl
  where
    go : (t : Bool) → ltb a b ≡ t → ltb c d ≡ t
    go true e = lt-ltb c d (f (ltb-true a b e))
    go false e = le-ltb c d (g (ltb-false a b e))

-- days stand to each other as their numbers do
pub numbered-less : (a b : ℕ) → lt_z (numbered a) (numbered b) ≡ ltb a b
numbered-less a b =
    elim (dec_lt a 3652425) [
      | yes p ↦ elim (dec_lt b 3652425) [
        | yes q ↦ rw (early a p, early b q) (ltb-same a b (3652425 - suc b) (3652425 - suc a) (λ (h : a < b). omega arith) (λ (h : b ≤ a). omega arith))
        | no q ↦ rw (early a p, late b (omega (arith, q))) (sym (lt-ltb a b (omega (arith, q))))
      ]
      | no p ↦ elim (dec_lt b 3652425) [
        | yes q ↦ rw (late a (omega (arith, p)), early b q) (sym (le-ltb a b (omega (arith, p))))
        | no q ↦ rw (late a (omega (arith, p)), late b (omega (arith, q))) (ltb-same a b (a - 3652425) (b - 3652425) (λ (h : a < b). omega (arith, p, q)) (λ (h : b ≤ a). omega (arith, p, q)))
      ]
    ]

pub numbered-le : (a b : ℕ) → a ≤ b → numbered a ≤ℤ numbered b
numbered-le a b h = lt_z_no (rw (numbered-less b a, le-ltb b a h) tt)
