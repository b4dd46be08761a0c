-- Which Datetimes are of the calendar, and where their days lie. Assumes nothing.
use mathlib.Core.Path.{◌≡◌, refl, sym, ap, ◌∙◌}
use mathlib.Core.Bool.{Bool, true, false, ◌&&◌, false≢true}
use mathlib.Core.Logic.{◌↔◌}
use Prim.Native.Nat.{ℕ, suc, ◌+◌, ◌-◌, ◌≤◌, ◌<◌}
use native.Mathlib.Omega.{arith}
use lib.Dec.{ltb}
use lib.IntN.{ℤ, pos, negsuc, nat_abs}
use lib.Signed.{◌≤ℤ◌}
use borrow.Author.Tests.{lt-ltb, le-ltb, ltb-true, ltb-false}
use Rattle.chars.specs.Pick.{pick}
use Rattle.refusals.specs.declared.Refusal.{Refusal}
use Rattle.refusals.specs.declared.Kind.TheVariants.{NotACalendarDate, HasSeason}
use Rattle.refusals.specs.Refusal.{file_span, refusal, number}
use Rattle.dates.specs.declared.Month.{Month}
use Rattle.dates.specs.declared.Day.{Day}
use Rattle.std.specs.Prelude.{Option, Some, None, Ok, Err}
use Rattle.dates.specs.declared.Datetime.{Datetime}
use Rattle.dates.specs.Calendar.{month_length}
use Rattle.dates.specs.Domain.{PartsIn}
use Rattle.dates.specs.Value.{month, day, has_season}
use Rattle.dates.proofs.Months.{some-day}
use Rattle.days.specs.declared.Period.{Period}
use Rattle.days.specs.Days.{year_length, days_from}
use Rattle.days.specs.Covered.{year_in, parts_in, first_of, length_of, last_of, is_date, first_day, last_day, period, not_adate, calendar_days, seasoned, covered}
use Rattle.days.specs.Faults.{Fault, year_outside, month_above, lone_day, day_past}
use Rattle.days.specs.Counts.{counted, days_to, numbered}
use Rattle.days.proofs.Years.{year-least, length-same, from_is, from_next}
use Rattle.days.proofs.Months.{month-same}
use Rattle.days.proofs.Numbers.{counted-in, numbered-le}
use Rattle.days.proofs.Counts.{leap-counted}
use Rattle.days.proofs.Steps.{from-mono, to-next, to-most, beginning, first-at, last-at}

both : (a : Bool) {b : Bool} → a && b ≡ true → (a ≡ true) × (b ≡ true)
both true e = (refl, e)
both false e = absurd (false≢true e)

and-false : (a : Bool) {b : Bool} → b ≡ false → a && b ≡ false
and-false true e = e
and-false false e = refl

joined : {a b : Bool} → a ≡ true → b ≡ true → a && b ≡ true
joined e f = rw (e, f)

-- The parts that are admitted are those of the calendar,
pub parts_are : (y : ℤ) (mo : Option Month) (da : Option Day) → (parts_in y mo da ≡ true) ↔ PartsIn y mo da
unfolding parts_in
parts_are y None None = (λ e. tt, λ u. refl)
parts_are y None (Some d) = (λ e. absurd (false≢true e), λ u. absurd u)
parts_are y (Some m) None = (λ e. ltb-true m.0 12 e, λ h. lt-ltb m.0 12 h)
parts_are y (Some m) (Some d) = (
  λ e. (ltb-true m.0 12 (both (ltb m.0 12) e).0, ltb-true d.0 (month_length m.0 y) (both (ltb m.0 12) e).1),
  λ (h : (m.0 < 12) × (d.0 < month_length m.0 y)). joined (lt-ltb m.0 12 h.0) (lt-ltb d.0 (month_length m.0 y) h.1),
)

-- and a Datetime is a date exactly if its year is one of -9999 to 9999 and its parts are those
pub accepted : (d : Datetime) → (is_date d ≡ true) ↔ ((nat_abs d.year < 10000) × PartsIn d.year d.month d.day)
unfolding is_date year_in
accepted d =
    let p = parts_are d.year d.month d.day in (
      λ e. (ltb-true (nat_abs d.year) 10000 (both (ltb (nat_abs d.year) 10000) e).0, p.0 (both (ltb (nat_abs d.year) 10000) e).1),
      λ (h : (nat_abs d.year < 10000) × PartsIn d.year d.month d.day). joined (lt-ltb (nat_abs d.year) 10000 h.0) (p.1 h.1),
    )

-- Why it is refused.
faulty : {y : ℤ} (mo : Option Month) (da : Option Day) → Fault y mo da → year_in y && parts_in y mo da ≡ false
unfolding year_in parts_in
faulty {y} mo da (year_outside h) = rw (le-ltb (nat_abs y) 10000 h)
faulty {y} mo da (month_above {m} h) = and-false (ltb (nat_abs y) 10000) (above da)
  where
    above : (da : Option Day) → parts_in y (Some m) da ≡ false
    above None = le-ltb m.0 12 h
    above (Some d) = rw (le-ltb m.0 12 h)
faulty {y} mo da lone_day = and-false (ltb (nat_abs y) 10000) refl
faulty {y} mo da (day_past {m} {d} h) = and-false (ltb (nat_abs y) 10000) (and-false (ltb m.0 12) (le-ltb d.0 (month_length m.0 y) h))

fault-of : (y : ℤ) (mo : Option Month) (da : Option Day) → year_in y && parts_in y mo da ≡ false → Fault y mo da
unfolding year_in parts_in
fault-of y mo da e = go (ltb (nat_abs y) 10000) refl e
  where
    day-fault : (m : Month) (d : Day) (t : Bool) → ltb m.0 12 ≡ t → t && ltb d.0 (month_length m.0 y) ≡ false → Fault y (Some m) (Some d)
    day-fault m d true p q = day_past (ltb-false d.0 (month_length m.0 y) q)
    day-fault m d false p q = month_above (ltb-false m.0 12 p)

    part : (mo : Option Month) (da : Option Day) → parts_in y mo da ≡ false → Fault y mo da
    part None None q = absurd (false≢true (sym q))
    part None (Some d) q = lone_day
    part (Some m) None q = month_above (ltb-false m.0 12 q)
    part (Some m) (Some d) q = day-fault m d (ltb m.0 12) refl q

    go : (t : Bool) → ltb (nat_abs y) 10000 ≡ t → t && parts_in y mo da ≡ false → Fault y mo da
    go true p q = part mo da q
    go false p q = year_outside (ltb-false (nat_abs y) 10000 p)

no-days : (p : Period) (r : Refusal) → Ok p ≡ Err r → ⊥
no-days p r e = let z : ◌≡◌ {A = ℕ} 0 1 = cc in omega arith

-- The calendar has no days for it exactly if it has such a cause,
pub no-date-exactly : (d : Datetime) → (calendar_days d ≡ not_adate) ↔ Fault d.year d.month d.day
unfolding calendar_days is_date not_adate pick
no-date-exactly d = (λ e. go (year_in d.year && parts_in d.year d.month d.day) refl e, λ (f : Fault d.year d.month d.day). rw (faulty d.month d.day f))
  where
    go : (t : Bool) → year_in d.year && parts_in d.year d.month d.day ≡ t → pick t (Ok (period (first_day d) (last_day d))) not_adate ≡ not_adate → Fault d.year d.month d.day
    go true p q = absurd (no-days _ _ q)
    go false p q = fault-of d.year d.month d.day p

-- which is no refusal of a season,
apart : not_adate ≡ seasoned → ⊥
unfolding not_adate seasoned refusal
apart e =
    let f : refusal NotACalendarDate (file_span 0 0) ≡ refusal HasSeason (file_span 0 0) = cc in
    let z : ◌≡◌ {A = ℕ} 17 24 = ap (λ (r : Refusal). number r.kind) f in
    omega arith

-- and it never answers with one
not-seasoned : (d : Datetime) → calendar_days d ≡ seasoned → ⊥
unfolding calendar_days seasoned pick
not-seasoned d e = go (is_date d) e
  where
    go : (t : Bool) → pick t (Ok (period (first_day d) (last_day d))) not_adate ≡ seasoned → ⊥
    go true q = no-days _ _ q
    go false q = apart q

-- Without a season a Datetime covers what the calendar says,
pub else-as-before : (d : Datetime) → has_season d ≡ false → covered d ≡ calendar_days d
unfolding covered pick
else-as-before d e = rw e

with-season : (d : Datetime) → has_season d ≡ true → covered d ≡ seasoned
unfolding covered pick
with-season d e = rw e

-- what is said of it is said of one with a season or of one without
cases : (d : Datetime) (A : Type 0) → (has_season d ≡ true → covered d ≡ seasoned → A) → (has_season d ≡ false → covered d ≡ calendar_days d → A) → A
cases d A seasonal plain = go (has_season d) refl
  where
    go : (t : Bool) → has_season d ≡ t → A
    go true e = seasonal e (with-season d e)
    go false e = plain e (else-as-before d e)

-- it is refused for its season exactly if it has one,
pub season-exactly : (d : Datetime) → (covered d ≡ seasoned) ↔ (has_season d ≡ true)
season-exactly d = (λ e. cases d (has_season d ≡ true) (λ s c. s) (λ s c. absurd (not-seasoned d (sym c ∙ e))), with-season d)

-- it is no date exactly if it has none and one of the four causes,
pub refused-exactly : (d : Datetime) → (covered d ≡ not_adate) ↔ ((has_season d ≡ false) × Fault d.year d.month d.day)
refused-exactly d = (
  λ e. cases d ((has_season d ≡ false) × Fault d.year d.month d.day) (λ s c. absurd (apart (sym e ∙ c))) (λ s c. (s, (no-date-exactly d).0 (sym c ∙ e))),
  λ (h : (has_season d ≡ false) × Fault d.year d.month d.day). else-as-before d h.0 ∙ (no-date-exactly d).1 h.1,
)

-- and else its first and last day are those
pub days_are : (d : Datetime) → has_season d ≡ false → is_date d ≡ true → covered d ≡ Ok (period (first_day d) (last_day d))
unfolding calendar_days pick
days_are d s e = else-as-before d s ∙ rw e

-- What has days has no season and is a date.
pub has-days : (d : Datetime) {p : Period} → covered d ≡ Ok p → (has_season d ≡ false) × (is_date d ≡ true)
unfolding calendar_days seasoned not_adate pick
has-days d {p} e = cases d ((has_season d ≡ false) × (is_date d ≡ true)) (λ s c. absurd (no-days _ _ (sym e ∙ c))) (λ s c. (s, go (is_date d) (sym c ∙ e)))
  where
    go : (t : Bool) → pick t (Ok (period (first_day d) (last_day d))) not_adate ≡ Ok p → t ≡ true
    go true q = refl
    go false q = absurd (no-days _ _ (sym q))

-- the first day and the last of the years that are counted
least : numbered 366 ≡ negsuc 3652058
unfolding numbered
least = refl

most : numbered 7304849 ≡ pos 3652424
unfolding numbered
most = refl

-- Where the days of a date lie, counted from -10000-01-01.
module _ (y : ℤ) (t : year_in y ≡ true) where
  pub month-length : (m : ℕ) → days_to (counted y) m + month_length m y ≡ days_to (counted y) (suc m)
  month-length m = omega (arith, to-next (counted y) m, month-same m y (pos (counted y)) (leap-counted y t))

  pub year-length : days_from (counted y) + year_length y ≡ days_from (suc (counted y))
  year-length = omega (arith, from_next (counted y), length-same y (pos (counted y)) (leap-counted y t))

  -- in their year
  pub within : (mo : Option Month) (da : Option Day) → PartsIn y mo da → (days_from (counted y) ≤ beginning y mo da) × (0 < length_of y mo da) × (beginning y mo da + length_of y mo da ≤ days_from (suc (counted y)))
  unfolding beginning length_of days_to
  within None None h = (omega arith, omega (arith, year-least y), omega (arith, year-length))
  within None (Some d) h = absurd h
  within (Some m) None h = (omega arith, some-day m.0 y h, omega (arith, month-length m.0, to-most (counted y) (suc m.0)))
  within (Some m) (Some d) h = (omega arith, omega arith, omega (arith, h.1, month-length m.0, to-most (counted y) (suc m.0)))

  -- a period of days in the year lies in it
  year-around : (b k : ℕ) → days_from (counted y) ≤ b → 0 < k → b + k ≤ days_from (suc (counted y))
      → (first_of y None None ≤ℤ numbered b) × (numbered (b + (k - 1)) ≤ℤ last_of y None None)
  unfolding beginning length_of
  year-around b k l p h =
      rw (first-at y None None t, last-at y None None t)
      (numbered-le (days_from (counted y)) b l, numbered-le (b + (k - 1)) (days_from (counted y) + (year_length y - 1)) (omega (arith, year-length, year-least y)))

  -- so a month lies in its year, and a day
  pub in-year : (mo : Option Month) (da : Option Day) → PartsIn y mo da → (first_of y None None ≤ℤ first_of y mo da) × (last_of y mo da ≤ℤ last_of y None None)
  in-year mo da h =
      let w = within mo da h in
      rw (first-at y mo da t, last-at y mo da t) (year-around (beginning y mo da) (length_of y mo da) w.0 w.1 w.2)

  -- and a day in its month
  pub in-month : (m d : ℕ) → d < month_length m y → (first_of y (month m) None ≤ℤ first_of y (month m) (day d)) × (last_of y (month m) (day d) ≤ℤ last_of y (month m) None)
  unfolding beginning length_of
  in-month m d h =
      let n = days_to (counted y) m in
      rw (first-at y (month m) None t, first-at y (month m) (day d) t, last-at y (month m) None t, last-at y (month m) (day d) t)
      (numbered-le n (n + d) (omega arith), numbered-le (n + d + (1 - 1)) (n + (month_length m y - 1)) (omega arith))

  -- the first day is not behind the last, and both lie in the years that are counted
  pub in_order : (mo : Option Month) (da : Option Day) → first_of y mo da ≤ℤ last_of y mo da
  in_order mo da =
      rw (first-at y mo da t, last-at y mo da t) (numbered-le (beginning y mo da) (beginning y mo da + (length_of y mo da - 1)) (omega arith))

  pub bounded : (mo : Option Month) (da : Option Day) → PartsIn y mo da → (negsuc 3652058 ≤ℤ first_of y mo da) × (last_of y mo da ≤ℤ pos 3652424)
  bounded mo da h =
      let w = within mo da h in
      let b = beginning y mo da in
      let k = length_of y mo da in
      let first : days_from 1 ≤ days_from (counted y) = from-mono 1 (counted y) (counted-in y t).0 in
      let last : days_from (suc (counted y)) ≤ days_from 20000 = from-mono (suc (counted y)) 20000 (counted-in y t).1 in
      rw (first-at y mo da t, last-at y mo da t, sym least, sym most)
      (numbered-le 366 b (omega (arith, w.0, first, from_is 1)), numbered-le (b + (k - 1)) 7304849 (omega (arith, w.1, w.2, last, from_is 20000)))

-- Of a Datetime: its first day is not behind its last,
pub first-last : (d : Datetime) → is_date d ≡ true → first_day d ≤ℤ last_day d
unfolding is_date first_day last_day
first-last d e = in_order d.year (both (year_in d.year) e).0 d.month d.day

-- and they are days from -3652059 to 3652424
pub bounds : (d : Datetime) → is_date d ≡ true → (negsuc 3652058 ≤ℤ first_day d) × (last_day d ≤ℤ pos 3652424)
unfolding is_date first_day last_day
bounds d e = bounded d.year (both (year_in d.year) e).0 d.month d.day ((accepted d).0 e).1
