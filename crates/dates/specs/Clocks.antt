-- Which times are good: beside a day, an hour up to 23, a minute and a second up to 59, and an offset with hours up to 23 and minutes up to 59.
use Rattle.std.specs.Prelude.{Bool, true, false, not, ◌&&◌, leb, is_some, Option, Some, None}
use Rattle.dates.specs.declared.Day.{Day}
use Rattle.dates.specs.declared.Month.{Month}
use Rattle.dates.specs.declared.TimeOffset.{TimeOffset}
use Rattle.dates.specs.declared.TimeOffset.TheVariants.{Utc, Offset}
use Rattle.dates.specs.declared.Time.{Time}
use Rattle.dates.specs.declared.Datetime.{Datetime}
use Rattle.dates.specs.Time.{in_range}

-- offset hours up to 23 and minutes up to 59; UTC is always in range
unfoldable pub offset_in : TimeOffset → Bool
offset_in Utc = true
offset_in (Offset positive h m) = leb h 23 && leb m 59

-- no offset is in range too
unfoldable pub zone_in : Option TimeOffset → Bool
zone_in None = true
zone_in (Some o) = offset_in o

-- a time that a clock shows, with such an offset
unfoldable pub clock_in : Time → Bool
clock_in t = in_range t.hour t.minute t.second && zone_in t.offset

-- whether there is a day beside a month
unfoldable pub day_beside_month : Option Month → Option Day → Bool
day_beside_month m d = is_some m && is_some d

-- a time is bad without a day, or out of range; no time is not bad
unfoldable pub bad_time : Bool → Option Time → Bool
bad_time has_day None = false
bad_time has_day (Some t) = not (has_day && clock_in t)

-- whether a Datetime has a bad time
unfoldable pub has_bad_time : Datetime → Bool
has_bad_time d = bad_time (day_beside_month d.month d.day) d.time
