-- What plain structs mean: every struct, whatever numbers it holds, is a Datetime or a Date.
use Rattle.std.specs.Prelude.{ℕ, Bool, not, eqb, Option, Some, None}
use Rattle.chars.specs.Pick.{pick}
use Rattle.dates.specs.declared.Day.{Day}
use Rattle.dates.specs.declared.Month.{Month}
use Rattle.dates.specs.declared.Time.{Time}
use Rattle.dates.specs.declared.Datetime.{Datetime}
use Rattle.dates.specs.declared.DateValue.{DateValue}
use Rattle.dates.specs.declared.DateValue.TheVariants.{At, After, Before, Between}
use Rattle.dates.specs.declared.Date.{Date}
use Rattle.dates.specs.Time.{time}
use Rattle.dates.specs.Value.{month, day, date}
use Rattle.codes.specs.Unpacked.{offset_of, season_of}
use Rattle.knobstream.specs.declared.PlainDatetime.{PlainDatetime}
use Rattle.knobstream.specs.declared.PlainDate.{PlainDate}

-- 0 is no, every other number yes
unfoldable pub is_set : ℕ → Bool
is_set n = not (eqb n 0)

-- the month, if there is one
unfoldable pub month_of : ℕ → ℕ → Option Month
month_of has n = pick (is_set has) (month n) None

-- the day, if there is one
unfoldable pub day_of : ℕ → ℕ → Option Day
day_of has n = pick (is_set has) (day n) None

-- the time, if there is one
unfoldable pub time_of : PlainDatetime → Option Time
time_of p =
    pick (is_set p.has_time)
    (Some (time p.hour p.minute p.second (offset_of p.offset p.offset_hours p.offset_minutes)))
    None

-- the Datetime, with a time that is given
abbrev pub datetime_at : PlainDatetime → Option Time → Datetime
datetime_at p t =
    record {
      year = p.year;
      month = month_of p.has_month p.month;
      day = day_of p.has_day p.day;
      time = t;
      season = season_of p.season;
    }

-- the Datetime
unfoldable pub datetime_of : PlainDatetime → Datetime
datetime_of p = datetime_at p (time_of p)

-- the point or range, by what its Datetimes mean: 0 At, 1 After, 2 Before, every other number Between; only Between looks at the second
unfoldable pub date_value : (PlainDatetime → Datetime) → PlainDate → DateValue
date_value by p =
    pick (eqb p.shape 0) (At (by p.first))
    (pick (eqb p.shape 1) (After (by p.first))
    (pick (eqb p.shape 2) (Before (by p.first)) (Between (by p.first) (by p.second))))

-- the Date, likewise
unfoldable pub date_by : (PlainDatetime → Datetime) → PlainDate → Date
date_by by p = date (date_value by p) (is_set p.uncertain) (is_set p.approximate)

-- the Date
abbrev pub date_of : PlainDate → Date
date_of p = date_by datetime_of p

-- a Datetime without its time. No public contract rests on it: the writers look at no time
unfoldable pub day_only : PlainDatetime → Datetime
day_only p = datetime_at p None
