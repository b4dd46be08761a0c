-- What the two ways of counting compute on the way. Years are counted from -10000, which is 25 cycles of 400 years before the year 0 and
-- so has its calendar: no number is negative before the end. The calls promise what `covered` says; that both ways come out
-- alike (`engines-equal`) is said over these.
use Rattle.std.specs.Prelude.{ℕ, zero, suc, ◌+◌, ◌-◌, ◌/◌, ◌%◌, ltb, ℤ, pos, nat_abs, ◌+ℤ◌, ◌-ℤ◌, Option, Some, None}
use Rattle.chars.specs.Pick.{pick}
use Rattle.dates.specs.declared.Day.{Day}
use Rattle.dates.specs.declared.Month.{Month}
use Rattle.dates.specs.declared.Datetime.{Datetime}
use Rattle.dates.specs.Calendar.{month_length}
use Rattle.days.specs.declared.Period.{Period}
use Rattle.days.specs.declared.Stretch.{Stretch}
use Rattle.days.specs.Days.{year_length, days_before, days_from}
use Rattle.days.specs.Covered.{year_in, period}

-- a year, counted from -10000
unfoldable pub counted : ℤ → ℕ
counted y = nat_abs (y +ℤ pos 10000)

-- a stretch: a year and a month where counting begins, the days that are past then, and how many are covered
abbrev pub stretch : ℕ → ℕ → ℕ → ℕ → Stretch
stretch n m p k = record { year = n; month = m; past = p; count = k }

-- the part of a year: a month with no day, or one day of a month
unfoldable pub asked_month : ℤ → ℕ → Option Day → Option Stretch
asked_month y m None = Some (stretch (counted y) m 0 (month_length m y))
asked_month y m (Some d) = pick (ltb d.0 (month_length m y)) (Some (stretch (counted y) m d.0 1)) None

-- the same, or the whole year
unfoldable pub asked_year : ℤ → Option Month → Option Day → Option Stretch
asked_year y None None = Some (stretch (counted y) 0 0 (year_length y))
asked_year y None (Some d) = None
asked_year y (Some m) day = pick (ltb m.0 12) (asked_month y m.0 day) None

-- what is asked of a Datetime, if it is one of the calendar
unfoldable pub asked : Datetime → Option Stretch
asked d = pick (year_in d.year) (asked_year d.year d.month d.day) None

-- the days before a month of a year, both counted from zero
unfoldable pub days_to : ℕ → ℕ → ℕ
days_to n m = days_from n + days_before m (pos n)

-- the length of a month, when months are counted on through the years from January of the year 0
unfoldable pub length_at : ℕ → ℕ
length_at i = month_length (i % 12) (pos (i / 12))

-- the days before it: each month's number plus its length is the next
unfoldable pub months_to : ℕ → ℕ
months_to zero = 0
months_to (suc i) = months_to i + length_at i

-- the number of a day that is counted from -10000-01-01
unfoldable pub numbered : ℕ → ℤ
numbered n = pos n -ℤ pos 3652425

-- the days from one that is counted so on, as many as are covered
unfoldable pub period_from : ℕ → ℕ → Period
period_from n count = period (numbered n) (numbered (n + count - 1))
