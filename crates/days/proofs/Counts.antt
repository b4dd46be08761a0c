-- Counted from -10000-01-01, a Datetime's days are those that the calendar gives it. Assumes nothing.
use mathlib.Core.Path.{◌≡◌, refl, sym, ap, ◌∙◌, subst}
use mathlib.Core.Bool.{Bool, true, false, ◌&&◌}
use Prim.Native.Nat.{ℕ, suc, ◌+◌, ◌-◌, ◌*◌, ◌≤◌, ◌<◌}
use native.Mathlib.Omega.{arith}
use lib.Dec.{ltb}
use lib.IntN.{ℤ, pos, negsuc, ◌+ℤ◌}
use borrow.Author.Tests.{ltb-true}
use Rattle.chars.specs.Pick.{pick}
use Rattle.dates.specs.declared.Day.{Day}
use Rattle.dates.specs.declared.Month.{Month}
use Rattle.days.specs.declared.Period.{Period}
use Rattle.refusals.specs.declared.Refusal.{Refusal}
use Rattle.std.specs.Prelude.{Option, Some, None, Result, Ok}
use Rattle.dates.specs.declared.Datetime.{Datetime}
use Rattle.dates.specs.Calendar.{leap_year, month_length}
use Rattle.dates.proofs.Months.{some-day}
use Rattle.dates.proofs.Lengths.{length_most}
use Rattle.days.specs.declared.Stretch.{Stretch}
use Rattle.days.specs.Days.{year_length, days_before, days_from, days_back, new_year, month_start}
use Rattle.days.specs.Covered.{year_in, parts_in, first_of, length_of, last_of, is_date, first_day, last_day, period, not_adate, calendar_days}
use Rattle.days.specs.Counts.{counted, stretch, asked_month, asked_year, asked, days_to, numbered, period_from}
use Rattle.days.specs.Ways.{stretch_days}
use Rattle.days.proofs.Years.{year-most, year-least, from-most, leap-on, leap-back, from_on, from_back}
use Rattle.days.proofs.Months.{before-first, before-most, before_same}
use Rattle.days.proofs.Numbers.{counted-pos, counted-neg, year-neg, counted-in, numbered-on, numbered-pos, numbered-neg}

pub leap-counted : (y : ℤ) → year_in y ≡ true → leap_year y ≡ leap_year (pos (counted y))
leap-counted (pos n) t = rw (counted-pos n) (leap-on n)
leap-counted (negsuc n) t = rw (counted-neg n (year-neg n t)) (leap-back n (omega (arith, year-neg n t)))

pub year-counted : (y : ℤ) → year_in y ≡ true → new_year y ≡ numbered (days_from (counted y))
unfolding new_year
year-counted (pos n) t = rw (counted-pos n, from_on n) (sym (numbered-pos (days_from n)))
year-counted (negsuc n) t =
    rw (counted-neg n (year-neg n t)) (sym (numbered-neg (days_from (10000 - suc n)) (days_back (suc n)) (from_back (suc n) (omega (arith, year-neg n t)))))

pub month-counted : (m : ℕ) (y : ℤ) → year_in y ≡ true → month_start m y ≡ numbered (days_to (counted y) m)
unfolding month_start days_to
month-counted m y t =
    ap (λ (z : ℤ). z +ℤ pos (days_before m y)) (year-counted y t)
    ∙ numbered-on (days_from (counted y)) (days_before m y)
    ∙ ap (λ (k : ℕ). numbered (days_from (counted y) + k)) (before_same m y (pos (counted y)) (leap-counted y t))

pub to-most : (n m : ℕ) → days_to n m ≤ 366 * n + 366
unfolding days_to
to-most n m = omega (arith, from-most n, before-most m (pos n), year-most (pos n))

-- the bounds of what is asked
abbrev pub In : Option Stretch → Type 0
In None = Unit {0}
In (Some s) = (0 < s.year) × (s.year < 20000) × (s.month < 12) × (s.past < 31) × (0 < s.count) × (s.count < 367)

in-month : (y : ℤ) → year_in y ≡ true → (m : ℕ) → m < 12 → (day : Option Day) → In (asked_month y m day)
unfolding asked_month pick
in-month y t m h None = ((counted-in y t).0, (counted-in y t).1, h, omega arith, some-day m y h, omega (arith, length_most m y))
in-month y t m h (Some d) = go (ltb d.0 (month_length m y)) refl
  where
    go : (u : Bool) → ltb d.0 (month_length m y) ≡ u → In (pick u (Some (stretch (counted y) m d.0 1)) None)
    go true e = ((counted-in y t).0, (counted-in y t).1, h, omega (arith, ltb-true d.0 (month_length m y) e, length_most m y), omega arith, omega arith)
    go false e = tt

in-year : (y : ℤ) → year_in y ≡ true → (month : Option Month) (day : Option Day) → In (asked_year y month day)
unfolding asked_year pick
in-year y t None None = ((counted-in y t).0, (counted-in y t).1, omega arith, omega arith, omega (arith, year-least y), omega (arith, year-most y))
in-year y t None (Some d) = tt
in-year y t (Some m) day = go (ltb m.0 12) refl
  where
    go : (u : Bool) → ltb m.0 12 ≡ u → In (pick u (asked_month y m.0 day) None)
    go true e = in-month y t m.0 (ltb-true m.0 12 e) day
    go false e = tt

pub asked_in : (d : Datetime) → In (asked d)
unfolding asked pick
asked_in d = go (year_in d.year) refl
  where
    go : (u : Bool) → year_in d.year ≡ u → In (pick u (asked_year d.year d.month d.day) None)
    go true e = in-year d.year e d.month d.day
    go false e = tt

part : (first : ℤ) (a k : ℕ) → first ≡ numbered a → 0 < k → ◌≡◌ {A = Result Period Refusal} (Ok (period first (first +ℤ pos (k - 1)))) (Ok (period_from a k))
unfolding period_from
part first a k e h =
    let g : a + (k - 1) ≡ a + k - 1 = omega arith in
    rw e (ap {B = Result Period Refusal} (λ (z : ℤ). Ok (period (numbered a) z)) (numbered-on a (k - 1) ∙ ap numbered g))

abbrev covered_by : Bool → ℤ → Option Month → Option Day → Result Period Refusal
covered_by u y month day = pick u (Ok (period (first_of y month day) (first_of y month day +ℤ pos (length_of y month day - 1)))) not_adate

of_month : (y : ℤ) → year_in y ≡ true → (m : ℕ) → m < 12 → Ok (period (month_start m y) (month_start m y +ℤ pos (month_length m y - 1))) ≡ stretch_days days_to (Some (stretch (counted y) m 0 (month_length m y)))
of_month y t m h = part (month_start m y) (days_to (counted y) m + 0) (month_length m y) (month-counted m y t ∙ ap numbered (omega arith)) (some-day m y h)

of-day : (y : ℤ) → year_in y ≡ true → (m d : ℕ) → Ok (period (month_start m y +ℤ pos d) (month_start m y +ℤ pos d +ℤ pos (1 - 1))) ≡ stretch_days days_to (Some (stretch (counted y) m d 1))
of-day y t m d =
    part (month_start m y +ℤ pos d) (days_to (counted y) m + d) 1 (ap (λ (z : ℤ). z +ℤ pos d) (month-counted m y t) ∙ numbered-on (days_to (counted y) m) d) (omega arith)

of-year : (y : ℤ) → year_in y ≡ true → Ok (period (new_year y) (new_year y +ℤ pos (year_length y - 1))) ≡ stretch_days days_to (Some (stretch (counted y) 0 0 (year_length y)))
unfolding days_to
of-year y t =
    part (new_year y) (days_to (counted y) 0 + 0) (year_length y) (year-counted y t ∙ ap numbered (omega (arith, before-first (pos (counted y))))) (omega (arith, year-least y))

parts : (y : ℤ) → year_in y ≡ true → (month : Option Month) (day : Option Day) → covered_by (parts_in y month day) y month day ≡ stretch_days days_to (asked_year y month day)
unfolding parts_in first_of length_of asked_month asked_year pick
parts y t None None = of-year y t
parts y t None (Some d) = refl
parts y t (Some m) None = go (ltb m.0 12) refl
  where
    go : (u : Bool) → ltb m.0 12 ≡ u → covered_by u y (Some m) None ≡ stretch_days days_to (pick u (asked_month y m.0 None) None)
    go true e = of_month y t m.0 (ltb-true m.0 12 e)
    go false e = refl
parts y t (Some m) (Some d) = go (ltb m.0 12) (ltb d.0 (month_length m.0 y)) refl
  where
    go : (u v : Bool) → ltb d.0 (month_length m.0 y) ≡ v → covered_by (u && v) y (Some m) (Some d) ≡ stretch_days days_to (pick u (asked_month y m.0 (Some d)) None)
    go true true e = rw e (of-day y t m.0 d.0)
    go true false e = rw e
    go false v e = refl

-- what a Datetime covers in the calendar is the answer to what it asks
pub answered : (d : Datetime) → calendar_days d ≡ stretch_days days_to (asked d)
unfolding calendar_days is_date first_day last_day last_of asked pick
answered d = go (year_in d.year) refl
  where
    go : (u : Bool) → year_in d.year ≡ u → covered_by (u && parts_in d.year d.month d.day) d.year d.month d.day ≡ stretch_days days_to (pick u (asked_year d.year d.month d.day) None)
    go true e = parts d.year e d.month d.day
    go false e = refl

-- as a caller meets it: what was asked is told by the case, and the days before a month are counted in one of the ways
pub not_covered : (before : ℕ → ℕ → ℕ) (d : Datetime) {o : Option Stretch} → o ≡ asked d → o ≡ None → not_adate ≡ stretch_days before (asked d)
not_covered before d e f = ap (stretch_days before) (sym f ∙ e)

module _ (d : Datetime) {o : Option Stretch} {s : Stretch} (e : o ≡ asked d) (f : o ≡ Some s) where
  pub bounds : In (Some s)
  bounds = subst In (sym e ∙ f) (asked_in d)

  pub covers : (before : ℕ → ℕ → ℕ) {b : ℕ} → b ≡ before s.year s.month → Ok (period_from (b + s.past) s.count) ≡ stretch_days before (asked d)
  covers before g = rw g (ap (stretch_days before) (sym f ∙ e))
