-- The days of a year before a month: by the formula, and from a month to the next. Assumes nothing.
use mathlib.Core.Path.{◌≡◌, refl}
use mathlib.Core.Bool.{Bool, true, false}
use mathlib.Core.List.{List, [], ◌∷◌}
use Prim.Native.Nat.{ℕ, zero, suc, ◌+◌, ◌-◌, ◌≤◌, ◌<◌}
use native.Mathlib.Omega.{arith}
use borrow.Author.Tests.{le-ltb, lt-ltb}
use lib.IntN.{ℤ}
use lib.ListN.{take, get_or}
use Rattle.chars.specs.Pick.{pick}
use Rattle.chars.proofs.Below.{agree}
use Rattle.dates.specs.Calendar.{leap_year, february, month_lengths, month_length}
use Rattle.days.specs.Days.{total, year_length, days_before}
use Rattle.days.specs.Ways.{rough, by_rule}

-- one more number of a list
take_next : (l : List ℕ) (m : ℕ) → total (take (suc m) l) ≡ total (take m l) + get_or l m 0
unfolding total
take_next [] zero = refl
take_next [] (suc m) = refl
take_next (x ∷ l) zero = omega arith
take_next (x ∷ l) (suc m) = omega (arith, take_next l m)

take-most : (l : List ℕ) (m : ℕ) → total (take m l) ≤ total l
unfolding total
take-most [] zero = omega arith
take-most [] (suc m) = omega arith
take-most (x ∷ l) zero = omega arith
take-most (x ∷ l) (suc m) = omega (arith, take-most l m)

-- the months of a year follow each other
pub before-next : (m : ℕ) (y : ℤ) → days_before (suc m) y ≡ days_before m y + month_length m y
unfolding days_before month_length
before-next m y = take_next (month_lengths (leap_year y)) m

pub before-first : (y : ℤ) → days_before 0 y ≡ 0
unfolding days_before total
before-first y = refl

-- and fill it
pub before_last : (y : ℤ) → days_before 12 y ≡ year_length y
unfolding days_before year_length month_lengths
before_last y = refl

pub before-most : (m : ℕ) (y : ℤ) → days_before m y ≤ year_length y
unfolding days_before year_length
before-most m y = take-most (month_lengths (leap_year y)) m

pub before_same : (m : ℕ) (y z : ℤ) → leap_year y ≡ leap_year z → days_before m y ≡ days_before m z
unfolding days_before
before_same m y z e = rw e

pub month-same : (m : ℕ) (y z : ℤ) → leap_year y ≡ leap_year z → month_length m y ≡ month_length m z
unfolding month_length
month-same m y z e = rw e

-- the formula is the sum of the lengths
pub months-rule : (leap : Bool) (m : ℕ) → m < 12 → by_rule leap m ≡ total (take m (month_lengths leap))
unfolding month_lengths february pick total
months-rule true m h = agree (by_rule true) (λ (m : ℕ). total (take m (month_lengths true))) 12 tt m h
months-rule false m h = agree (by_rule false) (λ (m : ℕ). total (take m (month_lengths false))) 12 tt m h

pub early : (leap : Bool) (m : ℕ) → m < 2 → rough m ≡ total (take m (month_lengths leap))
unfolding pick
early leap m h = rw (lt-ltb m 2 h) at (months-rule leap m (omega arith))

pub late-leap : (leap : Bool) (m : ℕ) → leap ≡ true → 2 ≤ m → m < 12 → rough m - 1 ≡ total (take m (month_lengths leap))
unfolding pick
late-leap leap m e l h = rw e (rw (le-ltb m 2 l) at (months-rule true m h))

pub late : (leap : Bool) (m : ℕ) → leap ≡ false → 2 ≤ m → m < 12 → rough m - 2 ≡ total (take m (month_lengths leap))
unfolding pick
late leap m e l h = rw e (rw (le-ltb m 2 l) at (months-rule false m h))
