-- Datetimes and Dates, and what callers say of their parts.
use Rattle.std.specs.Prelude.{ℕ, Bool, true, false, ℤ, Option, Some, None}
use Rattle.dates.specs.declared.Day.{Day}
use Rattle.dates.specs.declared.Month.{Month}
use Rattle.dates.specs.declared.Season.{Season}
use Rattle.dates.specs.declared.Season.TheVariants.{Autumn, Spring, Summer, Winter}
use Rattle.dates.specs.declared.Time.{Time}
use Rattle.dates.specs.declared.Datetime.{Datetime}
use Rattle.dates.specs.declared.DateValue.{DateValue}
use Rattle.dates.specs.declared.DateValue.TheVariants.{At}
use Rattle.dates.specs.declared.Date.{Date}
use Rattle.dates.specs.Ends.{any_end}

-- a month as it is stored: counted from zero
abbrev pub month : ℕ → Option Month
month m = Some (record { 0 = m })

-- a day likewise
abbrev pub day : ℕ → Option Day
day d = Some (record { 0 = d })

-- the Datetime of four parts, without a season
abbrev pub datetime : ℤ → Option Month → Option Day → Option Time → Datetime
datetime y m d t = record { year = y; month = m; day = d; time = t; season = None }

-- a season of a year
abbrev pub season_of : ℤ → Option Season → Datetime
season_of y s = record { year = y; month = None; day = None; time = None; season = s }

-- the number of a season in ISO 8601-2: 21 to 24; 0 for none
abbrev pub season_number : Option Season → ℕ
season_number None = 0
season_number (Some Spring) = 21
season_number (Some Summer) = 22
season_number (Some Autumn) = 23
season_number (Some Winter) = 24

-- whether there is one
abbrev pub is_season : Option Season → Bool
is_season None = false
is_season (Some Spring) = true
is_season (Some Summer) = true
is_season (Some Autumn) = true
is_season (Some Winter) = true

-- whether a Datetime has a season
abbrev pub has_season : Datetime → Bool
has_season d = is_season d.season

-- whether an end of a point or range has one
abbrev pub any_season : DateValue → Bool
any_season v = any_end has_season v

-- the Date of a value, with its marks
abbrev pub date : DateValue → Bool → Bool → Date
date v uncertain approximate = record { value = v; uncertain = uncertain; approximate = approximate }

-- the Date that is one Datetime, with no mark
abbrev pub from_datetime : Datetime → Date
from_datetime d = date (At d) false false
