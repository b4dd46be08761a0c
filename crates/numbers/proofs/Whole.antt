-- What callers use of a number that was parsed: it is at most the largest one, and has no more digits than its text has bytes. And how its
-- digits are read, one by one.
-- Assumes nothing.
use mathlib.Core.Path.{◌≡◌, subst}
use mathlib.Core.List.{List, [], ◌∷◌}
use Prim.Native.Nat.{ℕ, suc, ◌+◌, ◌*◌, ◌^◌, ◌≤◌, ◌<◌, zero-le}
use native.Mathlib.Nat.{pow-succ', pow-le-pow_right, mul_assoc, lt_of_lt_of_le}
use native.Mathlib.Numerals.{add-one}
use native.Mathlib.Omega.{arith}
use borrow.Author.Tests.{lt-ltb, le-ltb, ltb-false}
use lib.Dec.{lit<}
use lib.ListN.{length, get_or, drop, drop_of_length-le, length-drop}
use lib.Seq.{drop-cons}
use Rattle.chars.specs.Ascii.{digit_of}
use Rattle.chars.specs.Pick.{pick}
use Rattle.chars.proofs.Cases.{by-test}
use Rattle.std.specs.Prelude.{Option, Some, None}
use Rattle.numbers.specs.Parse.{whole_value, digits_from, parse}

module _ (top acc d i : ℕ) (s : List ℕ) (h : i < length s) (e : d ≡ digit_of (get_or s i 0)) where
  -- no digit stands there
  pub digit-none : 9 < d → whole_value top acc (drop i s) ≡ None
  unfolding whole_value pick
  digit-none l = rw (drop-cons s i 0 h, ← e, lt-ltb 9 d l)

  module _ (l : d ≤ 9) where
    -- the number is too large with it
    pub digit-above : top < acc * 10 + d → whole_value top acc (drop i s) ≡ None
    unfolding whole_value pick
    digit-above g = rw (drop-cons s i 0 h, ← e, le-ltb 9 d l, lt-ltb top (acc * 10 + d) g)

    -- on behind it
    pub digit-on : acc * 10 + d ≤ top → whole_value top acc (drop i s) ≡ whole_value top (acc * 10 + d) (drop (i + 1) s)
    unfolding whole_value pick
    digit-on g = rw (add-one, drop-cons s i 0 h, ← e, le-ltb 9 d l, le-ltb top (acc * 10 + d) g)

-- no digit is left
pub digits-over : (top acc i : ℕ) (s : List ℕ) → length s ≤ i → whole_value top acc (drop i s) ≡ Some acc
unfolding whole_value
digits-over top acc i s h = rw (drop_of_length-le s h)

-- a number that was parsed is at most n
pub data AtMost (n : ℕ) : Option ℕ → Type 0 where
  at_most : {v : ℕ} → v ≤ n → AtMost n (Some v)
  no_number : AtMost n None

value-most : (top acc : ℕ) (t : List ℕ) → acc ≤ top → AtMost top (whole_value top acc t)
unfolding whole_value
value-most top acc [] h = at_most h
value-most top acc (b ∷ t) h =
    by-test (AtMost top) _ (λ _. no_number)
    (λ _. by-test (AtMost top) _ (λ _. no_number)
    (λ e. value-most top (acc * 10 + digit_of b) t (ltb-false top (acc * 10 + digit_of b) e)))

from-most : (top : ℕ) (s : List ℕ) (at : ℕ) → AtMost top (digits_from top s at)
unfolding digits_from
from-most top s at = by-test (AtMost top) _ (λ _. no_number) (λ _. value-most top 0 (drop at s) zero-le)

pub parse-most : (top : ℕ) (s : List ℕ) → AtMost top (parse top s)
unfolding parse
parse-most top s = by-test (AtMost top) _ (λ _. from-most top s 1) (λ _. from-most top s 0)

of-most : {n v : ℕ} → AtMost n (Some v) → v ≤ n
of-most (at_most h) = h

pub value_in : (top : ℕ) (s : List ℕ) {v : ℕ} → parse top s ≡ Some v → v ≤ top
value_in top s e = of-most (subst (AtMost top) e (parse-most top s))

-- a number that was parsed is below n
data Below (n : ℕ) : Option ℕ → Type 0 where
  below : {v : ℕ} → v < n → Below n (Some v)
  none_below : Below n None

-- ten times as much, for one digit more
pub ten : (m i : ℕ) → m * 10 * 10 ^ i ≡ m * 10 ^ suc i
ten m i = rw (pow-succ' 10 i, mul_assoc)

value-below : (top acc m : ℕ) (t : List ℕ) → acc < m → Below (m * 10 ^ length t) (whole_value top acc t)
unfolding whole_value
value-below top acc m [] h = below {v = acc} (omega arith)
value-below top acc m (b ∷ t) h =
    by-test (Below (m * 10 ^ suc (length t))) _ (λ _. none_below)
    (λ e. by-test (Below (m * 10 ^ suc (length t))) _ (λ _. none_below)
    (λ _. rw (← ten m (length t)) (value-below top (acc * 10 + digit_of b) (m * 10) t (omega (arith, ltb-false 9 (digit_of b) e)))))

more : {n m : ℕ} {r : Option ℕ} → n ≤ m → Below n r → Below m r
more h (below l) = below (lt_of_lt_of_le l h)
more h none_below = none_below

from-below : (top : ℕ) (s : List ℕ) (at n : ℕ) → length s ≤ n → Below (10 ^ n) (digits_from top s at)
unfolding digits_from
from-below top s at n h =
    by-test (Below (10 ^ n)) _ (λ _. none_below) (λ _. more short (value-below top 0 1 (drop at s) (lit< tt)))
  where
    short : 1 * 10 ^ length (drop at s) ≤ 10 ^ n
    short = let l : length (drop at s) ≤ n = omega (arith, length-drop at s) in omega (arith, pow-le-pow_right {n = 10} (lit< tt) l)

parse-below : (top : ℕ) (s : List ℕ) (n : ℕ) → length s ≤ n → Below (10 ^ n) (parse top s)
unfolding parse
parse-below top s n h = by-test (Below (10 ^ n)) _ (λ _. from-below top s 1 n h) (λ _. from-below top s 0 n h)

of-below : {n v : ℕ} → Below n (Some v) → v < n
of-below (below h) = h

-- digits of at most n bytes say a number of at most n digits
pub digits-below : (top : ℕ) (s : List ℕ) (at n : ℕ) {v : ℕ} → length s ≤ n → digits_from top s at ≡ Some v → v < 10 ^ n
digits-below top s at n h e = of-below (subst (Below (10 ^ n)) e (from-below top s at n h))

-- a number of at most n bytes has no more than n digits
pub value-digits : (top : ℕ) (s : List ℕ) (n : ℕ) {v : ℕ} → length s ≤ n → parse top s ≡ Some v → v < 10 ^ n
value-digits top s n h e = of-below (subst (Below (10 ^ n)) e (parse-below top s n h))
