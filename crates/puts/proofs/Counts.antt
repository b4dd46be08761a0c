-- How many digits a number has. Assumes nothing.
use mathlib.Core.Path.{◌≡◌, refl, sym, ap, ◌∙◌}
use mathlib.Core.Logic.{⊎_elim}
use mathlib.Core.Bool.{Bool, true}
use Prim.Native.Nat.{ℕ, zero, suc, ◌/◌, ◌^◌, ◌≤◌, ◌<◌}
use native.Mathlib.Nat.{eq-zero-or-pos, pow-succ'}
use native.Mathlib.Numerals.{add-one}
use native.Mathlib.Omega.{arith}
use lib.Dec.{eqb}
use lib.ListN.{length, length-append}
use borrow.Author.Tests.{eq-eqb, ne_eqb, lt-ltb, le-ltb}
use Rattle.chars.specs.Pick.{pick}
use Rattle.puts.specs.Numbers.{digits, count, digit_count, width, decimal}

pub length_digits : (w n : ℕ) → length (digits w n) ≡ w
length_digits zero n = refl
length_digits (suc w) n = length-append (digits w (n / 10)) _ ∙ add-one _ ∙ ap suc (length_digits w (n / 10))

pub length-decimal : (least n : ℕ) → length (decimal least n) ≡ width least n
unfolding decimal
length-decimal least n = length_digits (width least n) n

-- what is left of n
abbrev left : ℕ → ℕ → ℕ
left f n = count f (eqb n 0) n

stops : (f n : ℕ) → count f true n ≡ 0
unfolding count
stops zero n = refl
stops (suc f) n = refl

none_left : (f n : ℕ) → n ≡ 0 → left f n ≡ 0
none_left f n e = ap (λ (b : Bool). count f b n) (eq-eqb n 0 e) ∙ stops f n

some_left : (f n : ℕ) → 0 < n → left (suc f) n ≡ suc (left f (n / 10))
unfolding count
some_left f n h = rw (ne_eqb n 0 (λ (e : n ≡ 0). omega arith))

-- how often may be divided does not matter, if it is often enough
enough : (f g n : ℕ) → n ≤ f → n ≤ g → left f n ≡ left g n
enough zero g n h k = let e : n ≡ 0 = omega arith in none_left zero n e ∙ sym (none_left g n e)
enough (suc f) zero n h k = let e : n ≡ 0 = omega arith in none_left (suc f) n e ∙ sym (none_left zero n e)
enough (suc f) (suc g) n h k =
    ⊎_elim
    (λ (e : n ≡ 0). none_left (suc f) n e ∙ sym (none_left (suc g) n e))
    (λ (l : 0 < n). some_left f n l ∙ ap suc (enough f g (n / 10) (omega arith) (omega arith)) ∙ sym (some_left g n l))
    (eq-zero-or-pos n)

pub no-digits : digit_count 0 ≡ 0
unfolding digit_count
no-digits = none_left 0 0 refl

-- one digit more than what is left behind it
pub one_more : (n : ℕ) → 0 < n → digit_count n ≡ suc (digit_count (n / 10))
unfolding digit_count
one_more zero h = absurd (omega arith)
one_more (suc n) h = some_left n (suc n) h ∙ ap suc (enough n (suc n / 10) (suc n / 10) (omega arith) (omega arith))

-- a number below a power of ten has no more digits than it
pub few : (k n : ℕ) → n < 10 ^ k → digit_count n ≤ k
few zero n h = let e : n ≡ 0 = omega arith in rw (e, no-digits) (omega arith)
few (suc k) n h =
    ⊎_elim (λ (e : n ≡ 0). rw (e, no-digits) (omega arith))
    (λ (l : 0 < n). rw (one_more n l) (omega (arith, few k (n / 10) (let p = pow-succ' 10 k in omega arith))))
    (eq-zero-or-pos n)

module _ (least n : ℕ) where
  -- fewer than it is to be written with
  pub padded : digit_count n < least → width least n ≡ least
  unfolding width pick
  padded h = rw (lt-ltb (digit_count n) least h)

  pub unpadded : least ≤ digit_count n → width least n ≡ digit_count n
  unfolding width pick
  unpadded h = rw (le-ltb (digit_count n) least h)
