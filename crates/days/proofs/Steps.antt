-- How the days of the calendar follow each other: years, the months of a year, the days of a month. Assumes nothing.
use mathlib.Core.Path.{◌≡◌, refl, sym, ap, ◌∙◌}
use mathlib.Core.Bool.{true}
use Prim.Native.Nat.{ℕ, zero, suc, ◌+◌, ◌-◌, ◌≤◌, ◌<◌}
use native.Mathlib.Nat.{eq-or-lt_of_le, le_of_suc-le-suc}
use native.Mathlib.Omega.{arith}
use mathlib.Core.Logic.{⊎_elim}
use lib.IntN.{ℤ, pos, negsuc, neg_ℤ, suc_ℤ, ◌+ℤ◌, +ℤ_assoc, +ℤ_idr, +ℤ_invl, neg_ℤ-+ℤ}
use Rattle.dates.specs.declared.Day.{Day}
use Rattle.dates.specs.declared.Month.{Month}
use Rattle.std.specs.Prelude.{Option, Some, None}
use Rattle.dates.specs.Calendar.{month_length}
use Rattle.dates.specs.Value.{month, day}
use Rattle.dates.proofs.Months.{some-day}
use Rattle.days.specs.Days.{year_length, days_before, days_from, days_back, new_year, month_start}
use Rattle.days.specs.Covered.{year_in, first_of, length_of, last_of}
use Rattle.days.specs.Counts.{counted, days_to, numbered}
use Rattle.days.proofs.Years.{year-least, from_next}
use Rattle.days.proofs.Months.{before-next, before-first, before_last, before-most}
use Rattle.days.proofs.Numbers.{numbered-on}
use Rattle.days.proofs.Counts.{year-counted, month-counted}

-- Sums, in natural numbers.

-- the days before a later year, and before a later month, are not fewer
pub from-mono : (m n : ℕ) → m ≤ n → days_from m ≤ days_from n
from-mono m zero h = let e : m ≡ 0 = omega arith in rw e (omega arith)
from-mono m (suc n) h =
    ⊎_elim (λ (e : m ≡ suc n). rw e (omega arith)) (λ (l : m < suc n). omega (arith, from-mono m n (le_of_suc-le-suc l), from_next n)) (eq-or-lt_of_le h)

pub before-mono : (y : ℤ) (i j : ℕ) → i ≤ j → days_before i y ≤ days_before j y
before-mono y i zero h = let e : i ≡ 0 = omega arith in rw e (omega arith)
before-mono y i (suc j) h =
    ⊎_elim (λ (e : i ≡ suc j). rw e (omega arith)) (λ (l : i < suc j). omega (arith, before-mono y i j (le_of_suc-le-suc l), before-next j y)) (eq-or-lt_of_le h)

-- a month ends in its year
pub to-next : (n m : ℕ) → days_to n (suc m) ≡ days_to n m + month_length m (pos n)
unfolding days_to
to-next n m = omega (arith, before-next m (pos n))

pub to-most : (n m : ℕ) → days_to n m ≤ days_from (suc n)
unfolding days_to
to-most n m = omega (arith, before-most m (pos n), from_next n)

-- Numbers of days. These hold for all years, those too that are not counted.

-- what is taken back and added again
again : (a b : ℕ) → neg_ℤ (pos (a + b)) +ℤ pos b ≡ neg_ℤ (pos a)
again a b =
    ap (λ (z : ℤ). z +ℤ pos b) (neg_ℤ-+ℤ (pos a) (pos b))
    ∙ +ℤ_assoc (neg_ℤ (pos a)) (neg_ℤ (pos b)) (pos b)
    ∙ ap (λ (z : ℤ). neg_ℤ (pos a) +ℤ z) (+ℤ_invl (pos b))
    ∙ +ℤ_idr (neg_ℤ (pos a))

-- a year's first day and its days lead to the next year
pub next-year : (y : ℤ) → new_year (suc_ℤ y) ≡ new_year y +ℤ pos (year_length y)
unfolding new_year days_from days_back
next-year (pos n) = refl
next-year (negsuc zero) = sym (again 0 (year_length (negsuc 0)))
next-year (negsuc (suc n)) = sym (again (days_back (suc n)) (year_length (negsuc (suc n))))

-- a month's first day and its days lead to the next month
pub next-month : (m : ℕ) (y : ℤ) → month_start (suc m) y ≡ month_start m y +ℤ pos (month_length m y)
unfolding month_start
next-month m y = ap (λ (k : ℕ). new_year y +ℤ pos k) (before-next m y) ∙ sym (+ℤ_assoc (new_year y) (pos (days_before m y)) (pos (month_length m y)))

-- January begins with the year, and the next year behind December
pub january : (y : ℤ) → month_start 0 y ≡ new_year y
unfolding month_start
january y = ap (λ (k : ℕ). new_year y +ℤ pos k) (before-first y) ∙ +ℤ_idr (new_year y)

pub december : (y : ℤ) → month_start 12 y ≡ new_year (suc_ℤ y)
unfolding month_start
december y = ap (λ (k : ℕ). new_year y +ℤ pos k) (before_last y) ∙ sym (next-year y)

-- the day behind the last is as many days on as there are
pub behind : (y : ℤ) (mo : Option Month) (da : Option Day) → 0 < length_of y mo da → last_of y mo da +ℤ pos 1 ≡ first_of y mo da +ℤ pos (length_of y mo da)
unfolding last_of
behind y mo da h =
    let e : length_of y mo da - 1 + 1 ≡ length_of y mo da = omega arith in
    +ℤ_assoc (first_of y mo da) (pos (length_of y mo da - 1)) (pos 1) ∙ ap (λ (k : ℕ). first_of y mo da +ℤ pos k) e

-- a year begins on the day behind the last of the year before
pub years-follow : (y : ℤ) → first_of (suc_ℤ y) None None ≡ last_of y None None +ℤ pos 1
unfolding first_of length_of
years-follow y = next-year y ∙ sym (behind y None None (omega (arith, year-least y)))

-- a month on the day behind the last of the month before
pub months-follow : (m : ℕ) (y : ℤ) → m < 12 → first_of y (month (suc m)) None ≡ last_of y (month m) None +ℤ pos 1
unfolding first_of length_of
months-follow m y h = next-month m y ∙ sym (behind y (month m) None (some-day m y h))

-- January of the next year on the day behind the last of December
pub january-follows : (y : ℤ) → first_of (suc_ℤ y) (month 0) None ≡ last_of y (month 11) None +ℤ pos 1
unfolding first_of length_of
january-follows y = january (suc_ℤ y) ∙ sym (december y) ∙ next-month 11 y ∙ sym (behind y (month 11) None (some-day 11 y (omega arith)))

-- and a day behind the day before; the first of a month is the month's first
pub days-follow : (d m : ℕ) (y : ℤ) → first_of y (month m) (day (suc d)) ≡ last_of y (month m) (day d) +ℤ pos 1
unfolding first_of length_of
days-follow d m y =
    let e : suc d ≡ d + 1 = omega arith in
    ap (λ (k : ℕ). month_start m y +ℤ pos k) e ∙ sym (+ℤ_assoc (month_start m y) (pos d) (pos 1)) ∙ sym (behind y (month m) (day d) (omega arith))

pub day-first : (m : ℕ) (y : ℤ) → first_of y (month m) (day 0) ≡ first_of y (month m) None
unfolding first_of
day-first m y = +ℤ_idr (month_start m y)

-- The same, counted from -10000-01-01, for the years that are counted: omega reads these.

-- the days before the first day
unfoldable pub beginning : ℤ → Option Month → Option Day → ℕ
beginning y None da = days_from (counted y)
beginning y (Some m) None = days_to (counted y) m.0
beginning y (Some m) (Some d) = days_to (counted y) m.0 + d.0

pub first-at : (y : ℤ) (mo : Option Month) (da : Option Day) → year_in y ≡ true → first_of y mo da ≡ numbered (beginning y mo da)
unfolding first_of beginning
first-at y None da t = year-counted y t
first-at y (Some m) None t = month-counted m.0 y t
first-at y (Some m) (Some d) t = ap (λ (z : ℤ). z +ℤ pos d.0) (month-counted m.0 y t) ∙ numbered-on (days_to (counted y) m.0) d.0

pub last-at : (y : ℤ) (mo : Option Month) (da : Option Day) → year_in y ≡ true → last_of y mo da ≡ numbered (beginning y mo da + (length_of y mo da - 1))
unfolding last_of
last-at y mo da t = ap (λ (z : ℤ). z +ℤ pos (length_of y mo da - 1)) (first-at y mo da t) ∙ numbered-on (beginning y mo da) (length_of y mo da - 1)
