-- What is asked, by the cases that the code takes. Assumes nothing.
use mathlib.Core.Path.{◌≡◌, sym}
use mathlib.Core.Bool.{true, false}
use Prim.Native.Nat.{ℕ, ◌≤◌, ◌<◌}
use lib.IntN.{ℤ}
use borrow.Author.Tests.{lt-ltb, le-ltb}
use Rattle.chars.specs.Pick.{pick}
use Rattle.std.specs.Prelude.{Option, Some, None}
use Rattle.dates.specs.declared.Month.{Month}
use Rattle.dates.specs.declared.Day.{Day}
use Rattle.dates.specs.declared.Datetime.{Datetime}
use Rattle.dates.specs.Calendar.{month_length}
use Rattle.days.specs.declared.Stretch.{Stretch}
use Rattle.days.specs.Days.{year_length}
use Rattle.days.specs.Covered.{year_in}
use Rattle.days.specs.Counts.{counted, stretch, asked_month, asked_year, asked}

-- a month of n, which is counted, with l days
module _ (y : ℤ) (m : ℕ) {day : Option Day} {n l : ℕ} (c : n ≡ counted y) (e : l ≡ month_length m y) where
  pub whole-month : day ≡ None → Some (stretch n m 0 l) ≡ asked_month y m day
  unfolding asked_month
  whole-month d = rw (d, c, e)

  module _ (x : Day) (d : day ≡ Some x) where
    pub one_day : x.0 < l → Some (stretch n m x.0 1) ≡ asked_month y m day
    unfolding asked_month pick
    one_day h = rw (d, c, sym e, lt-ltb x.0 l h)

    pub no_day : l ≤ x.0 → None ≡ asked_month y m day
    unfolding asked_month pick
    no_day h = rw (d, sym e, le-ltb x.0 l h)

-- a year
module _ (y : ℤ) {month : Option Month} (day : Option Day) where
  pub whole-year : month ≡ None → day ≡ None → {n l : ℕ} → n ≡ counted y → l ≡ year_length y → Some (stretch n 0 0 l) ≡ asked_year y month day
  unfolding asked_year
  whole-year m d c e = rw (m, d, c, e)

  pub lone_day : month ≡ None → (x : Day) → day ≡ Some x → None ≡ asked_year y month day
  unfolding asked_year
  lone_day m x d = rw (m, d)

  module _ (x : Month) (m : month ≡ Some x) where
    pub some-month : x.0 < 12 → {s : Option Stretch} → s ≡ asked_month y x.0 day → s ≡ asked_year y month day
    unfolding asked_year pick
    some-month h e = rw (m, lt-ltb x.0 12 h) e

    pub no_month : 12 ≤ x.0 → None ≡ asked_year y month day
    unfolding asked_year pick
    no_month h = rw (m, le-ltb x.0 12 h)

-- a year that is counted, or is not
pub year_in_lem : (d : Datetime) → year_in d.year ≡ true → {s : Option Stretch} → s ≡ asked_year d.year d.month d.day → s ≡ asked d
unfolding asked pick
year_in_lem d t e = rw t e

pub year-out : (d : Datetime) → year_in d.year ≡ false → None ≡ asked d
unfolding asked pick
year-out d t = rw t
