-- Digits as numbers: in fields, near the year 2000, and before Christ.
-- Assumes nothing.
use mathlib.Core.Path.{◌≡◌, refl}
use mathlib.Core.Bool.{Bool, true, false}
use mathlib.Core.List.{List, [], ◌∷◌}
use Prim.Native.Char.{code}
use Prim.Native.Nat.{ℕ, zero, suc, ◌+◌, ◌-◌, ◌*◌, ◌<◌}
use native.Mathlib.Nat.{zero-add}
use native.Mathlib.Omega.{arith}
use lib.ListN.{length, get_or}
use borrow.Author.Tests.{lt-ltb, le-ltb}
use Rattle.chars.specs.Pick.{pick}
use Rattle.chars.specs.Classes.{is_ascii_digit, within}
use Rattle.strict.proofs.Digits.{digit}
use Rattle.fields.specs.Year.{before_christ}
use Rattle.codes.specs.Points.{two_of, four_of, year_of}
use Rattle.codes.specs.Parts.{number_from, number_of}
use Rattle.codes.specs.Words.{twos}

below : (a b : ℕ) → is_ascii_digit a ≡ true → is_ascii_digit b ≡ true → (a - 48) * 10 + (b - 48) < 100
below a b ea eb =
    let p = digit a ea in
    let q = digit b eb in
    omega (arith, p.low, p.high, q.low, q.high)

-- four digits one by one, or two by two
module _ (a b c d : ℕ) where
  one_by_one : (p q r t : Bool) → is_ascii_digit a ≡ p → is_ascii_digit b ≡ q → is_ascii_digit c ≡ r → is_ascii_digit d ≡ t → four_of a b c d ≡ number_from 0 (a ∷ b ∷ c ∷ d ∷ [])
  unfolding four_of two_of number_from pick
  one_by_one false q r t ea eb ec ed = simp ea
  one_by_one true false r t ea eb ec ed = simp (ea, eb)
  one_by_one true true false t ea eb ec ed = simp (ea, eb, ec, lt-ltb _ _ (below a b ea eb))
  one_by_one true true true false ea eb ec ed = simp (ea, eb, ec, ed, lt-ltb _ _ (below a b ea eb))
  one_by_one true true true true ea eb ec ed =
      rw (ea, eb, ec, ed, lt-ltb ((a - 48) * 10 + (b - 48)) 100 (below a b ea eb), lt-ltb ((c - 48) * 10 + (d - 48)) 100 (below c d ec ed)) (omega arith)

  four-number : four_of a b c d ≡ number_from 0 (a ∷ b ∷ c ∷ d ∷ [])
  four-number = one_by_one (is_ascii_digit a) (is_ascii_digit b) (is_ascii_digit c) (is_ascii_digit d) refl refl refl refl

pub four_are : (s : List ℕ) → length s ≡ 4 → year_of s ≡ number_of s
unfolding year_of number_of pick
four_are (a ∷ b ∷ c ∷ d ∷ []) h = four-number a b c d
four_are [] h = absurd (omega arith)
four_are (a ∷ []) h = absurd (omega arith)
four_are (a ∷ b ∷ []) h = absurd (omega arith)
four_are (a ∷ b ∷ c ∷ []) h = absurd (omega arith)
four_are (a ∷ b ∷ c ∷ d ∷ e ∷ t) h = absurd (omega arith)

-- zeros in front change nothing
pub three-are : (s : List ℕ) → length s ≡ 3 → four_of (code "0") (get_or s 0 0) (get_or s 1 0) (get_or s 2 0) ≡ number_of s
unfolding number_of number_from is_ascii_digit within pick
three-are (a ∷ b ∷ c ∷ []) h = four-number 48 a b c
three-are [] h = absurd (omega arith)
three-are (a ∷ []) h = absurd (omega arith)
three-are (a ∷ b ∷ []) h = absurd (omega arith)
three-are (a ∷ b ∷ c ∷ d ∷ t) h = absurd (omega arith)

pub two-are : (s : List ℕ) → length s ≡ 2 → four_of (code "0") (code "0") (get_or s 0 0) (get_or s 1 0) ≡ number_of s
unfolding number_of number_from is_ascii_digit within pick
two-are (a ∷ b ∷ []) h = four-number 48 48 a b
two-are [] h = absurd (omega arith)
two-are (a ∷ []) h = absurd (omega arith)
two-are (a ∷ b ∷ c ∷ t) h = absurd (omega arith)

pub one-is : (s : List ℕ) → length s ≡ 1 → four_of (code "0") (code "0") (code "0") (get_or s 0 0) ≡ number_of s
unfolding number_of number_from is_ascii_digit within pick
one-is (a ∷ []) h = four-number 48 48 48 a
one-is [] h = absurd (omega arith)
one-is (a ∷ b ∷ t) h = absurd (omega arith)

pub no_number : (s : List ℕ) → (length s ≡ 4 → ⊥) → (length s ≡ 3 → ⊥) → (length s ≡ 2 → ⊥) → (length s ≡ 1 → ⊥) → number_of s ≡ 10000
unfolding number_of pick
no_number [] h4 h3 h2 h1 = refl
no_number (a ∷ []) h4 h3 h2 h1 = absurd (h1 refl)
no_number (a ∷ b ∷ []) h4 h3 h2 h1 = absurd (h2 refl)
no_number (a ∷ b ∷ c ∷ []) h4 h3 h2 h1 = absurd (h3 refl)
no_number (a ∷ b ∷ c ∷ d ∷ []) h4 h3 h2 h1 = absurd (h4 refl)
no_number (a ∷ b ∷ c ∷ d ∷ e ∷ t) h4 h3 h2 h1 =
    rw (lt-ltb 0 (length (a ∷ b ∷ c ∷ d ∷ e ∷ t)) (omega arith), le-ltb (length (a ∷ b ∷ c ∷ d ∷ e ∷ t)) 5 (omega arith))

pub digit-alone : (b : ℕ) → two_of (code "0") b ≡ pick (is_ascii_digit b) (b - code "0") 100
unfolding two_of is_ascii_digit within
digit-alone b = rw (zero-add (b - 48))

-- a year before Christ in two's complement
pub era-twos : (n : ℕ) → 1 < n → twos (before_christ n) ≡ 4294967297 - n
unfolding twos
era-twos zero h = absurd (omega arith)
era-twos (suc zero) h = absurd (omega arith)
era-twos (suc (suc k)) h = rw (lt-ltb 1 (suc (suc k)) h) (omega arith)
