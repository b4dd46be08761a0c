-- The days that a Datetime covers: those of its year, of its month or its one day. Its time is not looked at.
use Rattle.std.specs.Prelude.{ℕ, ◌-◌, Bool, true, false, ◌&&◌, ltb, ℤ, pos, nat_abs, ◌+ℤ◌, Option, Some, None, Result, Ok, Err}
use Rattle.chars.specs.Pick.{pick}
use Rattle.refusals.specs.declared.Kind.TheVariants.{NotACalendarDate, HasSeason}
use Rattle.refusals.specs.Refusal.{file_span, refusal}
use Rattle.dates.specs.declared.Day.{Day}
use Rattle.dates.specs.declared.Month.{Month}
use Rattle.refusals.specs.declared.Refusal.{Refusal}
use Rattle.dates.specs.declared.Datetime.{Datetime}
use Rattle.dates.specs.Value.{has_season}
use Rattle.dates.specs.Calendar.{month_length}
use Rattle.days.specs.declared.Period.{Period}
use Rattle.days.specs.Days.{year_length, new_year, month_start}

-- the years that days are counted in: -9999 to 9999
unfoldable pub year_in : ℤ → Bool
year_in y = ltb (nat_abs y) 10000

-- month and day, both counted from zero: a month is one of twelve, a day has a month and is not past it
unfoldable pub parts_in : ℤ → Option Month → Option Day → Bool
parts_in y None None = true
parts_in y None (Some d) = false
parts_in y (Some m) None = ltb m.0 12
parts_in y (Some m) (Some d) = ltb m.0 12 && ltb d.0 (month_length m.0 y)

-- the first day: of the year, of the month, or the day itself
unfoldable pub first_of : ℤ → Option Month → Option Day → ℤ
first_of y None day = new_year y
first_of y (Some m) None = month_start m.0 y
first_of y (Some m) (Some d) = month_start m.0 y +ℤ pos d.0

-- how many days: those of the year or of the month, or one
unfoldable pub length_of : ℤ → Option Month → Option Day → ℕ
length_of y None day = year_length y
length_of y (Some m) None = month_length m.0 y
length_of y (Some m) (Some d) = 1

-- the last day: from the first on, as many as there are
unfoldable pub last_of : ℤ → Option Month → Option Day → ℤ
last_of y month day = first_of y month day +ℤ pos (length_of y month day - 1)

-- whether a Datetime is one of the calendar
unfoldable pub is_date : Datetime → Bool
is_date d = year_in d.year && parts_in d.year d.month d.day

-- its first day
unfoldable pub first_day : Datetime → ℤ
first_day d = first_of d.year d.month d.day

-- its last day
unfoldable pub last_day : Datetime → ℤ
last_day d = last_of d.year d.month d.day

-- the days from a first to a last
abbrev pub period : ℤ → ℤ → Period
period first last = record { first = first; last = last }

-- what is no date of the calendar; it has no place
unfoldable pub not_adate : Result Period Refusal
not_adate = Err (refusal NotACalendarDate (file_span 0 0))

-- the first and the last day of a Datetime without a season, or its refusal
unfoldable pub calendar_days : Datetime → Result Period Refusal
calendar_days d = pick (is_date d) (Ok (period (first_day d) (last_day d))) not_adate

-- no day is counted in a season; this has no place either
unfoldable pub seasoned : Result Period Refusal
seasoned = Err (refusal HasSeason (file_span 0 0))

-- the first and the last day of a Datetime: HasSeason if it has a season, before all else
unfoldable pub covered : Datetime → Result Period Refusal
covered d = pick (has_season d) seasoned (calendar_days d)
