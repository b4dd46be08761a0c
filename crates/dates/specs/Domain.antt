-- The Datetimes whose text without times can be read back: a year of four digits, a month and a day of the calendar, no time and no season.
use Rattle.std.specs.Prelude.{◌<◌, ◌≡◌, ℤ, nat_abs, Option, Some, None}
use Rattle.dates.specs.declared.Day.{Day}
use Rattle.dates.specs.declared.Month.{Month}
use Rattle.dates.specs.declared.Datetime.{Datetime}
use Rattle.dates.specs.Calendar.{month_length}

-- month and day, both counted from 0: a month is one of twelve, a day stands beside a month, and within its length in that year
abbrev pub PartsIn : ℤ → Option Month → Option Day → Type 0
PartsIn y None None = Unit {0}
PartsIn y None (Some d) = ⊥
PartsIn y (Some m) None = m.0 < 12
PartsIn y (Some m) (Some d) = (m.0 < 12) × (d.0 < month_length m.0 y)

-- one end of a Date, or its only one
pub record EndIn (d : Datetime) : Type 0 where
  -- a text has four digits for a year: -9999 to 9999
  pub year_in : nat_abs d.year < 10000
  -- no reader takes what the calendar does not have
  pub parts_in : PartsIn d.year d.month d.day
  -- the text has no time
  pub untimed : d.time ≡ None
  -- nor a season
  pub unseasoned : d.season ≡ None
