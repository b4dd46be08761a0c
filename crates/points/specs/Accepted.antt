-- What is known of a Datetime that is read, whatever its time.
use Rattle.std.specs.Prelude.{◌<◌, ◌≡◌, false, nat_abs, None}
use Rattle.dates.specs.Clocks.{has_bad_time}
use Rattle.dates.specs.Domain.{PartsIn}
use Rattle.dates.specs.declared.Datetime.{Datetime}

-- a date of the calendar with a year of four digits, no season, and a good time or none
pub record Dated (d : Datetime) : Type 0 where
  -- a year from -9999 to 9999
  pub year_in : nat_abs d.year < 10000
  -- a month of twelve, and a day beside it and within its length
  pub parts_in : PartsIn d.year d.month d.day
  -- a time beside a day, in its ranges, or none
  pub time_in : has_bad_time d ≡ false
  -- no season
  pub unseasoned : d.season ≡ None
