-- Why a Datetime is no date of the calendar: four causes.
use Rattle.std.specs.Prelude.{◌≤◌, ◌<◌, ℤ, nat_abs, Option, Some, None}
use Rattle.dates.specs.declared.Month.{Month}
use Rattle.dates.specs.declared.Day.{Day}
use Rattle.dates.specs.Calendar.{month_length}

-- one of them, of a year, a month and a day, the last two counted from zero
pub data Fault (y : ℤ) : Option Month → Option Day → Type 0 where
  -- the year is outside
  year_outside : {mo : Option Month} {da : Option Day} → 9999 < nat_abs y → Fault y mo da
  -- the month is above 11
  month_above : {m : Month} {da : Option Day} → 11 < m.0 → Fault y (Some m) da
  -- a day has no month
  lone_day : {d : Day} → Fault y None (Some d)
  -- a day is past its month
  day_past : {m : Month} {d : Day} → month_length m.0 y ≤ d.0 → Fault y (Some m) (Some d)
