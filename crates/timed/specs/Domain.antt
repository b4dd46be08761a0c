-- The Dates whose text with times is read back: those of the calendar with four-digit years, and times beside days.
use Rattle.std.specs.Prelude.{◌≤◌, ◌<◌, ◌≡◌, nat_abs, Option, Some, None}
use Rattle.dates.specs.declared.Day.{Day}
use Rattle.dates.specs.declared.TimeOffset.{TimeOffset}
use Rattle.dates.specs.declared.TimeOffset.TheVariants.{Utc, Offset}
use Rattle.dates.specs.declared.Time.{Time}
use Rattle.dates.specs.declared.Datetime.{Datetime}
use Rattle.dates.specs.declared.DateValue.{DateValue}
use Rattle.dates.specs.Domain.{PartsIn}
use Rattle.dates.specs.Ends.{EachEnd}

-- offset hours up to 23 and minutes up to 59
abbrev pub OffsetIn : TimeOffset → Type 0
OffsetIn Utc = Unit {0}
OffsetIn (Offset positive h m) = (h ≤ 23) × (m ≤ 59)

-- an offset, if there is one
abbrev pub ZoneIn : Option TimeOffset → Type 0
ZoneIn None = Unit {0}
ZoneIn (Some o) = OffsetIn o

-- a time that a clock shows
pub record ClockIn (t : Time) : Type 0 where
  -- there is no hour 24
  pub hour_in : t.hour ≤ 23
  -- nor a minute 60
  pub minute_in : t.minute ≤ 59
  -- nor a leap second
  pub second_in : t.second ≤ 59
  -- its offset is in range too
  pub zone_in : ZoneIn t.offset

-- a time stands beside a day
abbrev pub TimeIn : Option Day → Option Time → Type 0
TimeIn d None = Unit {0}
TimeIn None (Some t) = ⊥
TimeIn (Some d) (Some t) = ClockIn t

-- one end of a Date, or its only one
pub record TimedIn (d : Datetime) : Type 0 where
  -- a text has four digits for a year: -9999 to 9999
  pub year_in : nat_abs d.year < 10000
  -- a month of twelve, and a day beside it and within its length
  pub parts_in : PartsIn d.year d.month d.day
  -- a time that a clock shows, beside the day
  pub time_in : TimeIn d.day d.time
  -- a season is not written
  pub unseasoned : d.season ≡ None

-- every end of a Date
abbrev pub InTimed : DateValue → Type 0
InTimed v = EachEnd TimedIn v
