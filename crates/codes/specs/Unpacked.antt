-- What words say, read back part by part: the way back from `words_of`.
use Rattle.std.specs.Prelude.{ℕ, ◌-◌, ◌/◌, ◌%◌, eqb, ltb, ℤ, pos, negsuc, Option, Some, None, Result, Ok, Err}
use Rattle.chars.specs.Pick.{pick}
use Rattle.dates.specs.declared.Day.{Day}
use Rattle.dates.specs.declared.Month.{Month}
use Rattle.dates.specs.declared.Season.{Season}
use Rattle.dates.specs.declared.Season.TheVariants.{Autumn, Spring, Summer, Winter}
use Rattle.dates.specs.declared.Time.{Time}
use Rattle.dates.specs.declared.TimeOffset.{TimeOffset}
use Rattle.refusals.specs.declared.Refusal.{Refusal}
use Rattle.dates.specs.declared.TimeOffset.TheVariants.{Utc, Offset}
use Rattle.dates.specs.declared.Datetime.{Datetime}
use Rattle.dates.specs.declared.DateValue.{DateValue}
use Rattle.dates.specs.declared.DateValue.TheVariants.{At, After, Before, Between}
use Rattle.dates.specs.declared.Date.{Date}
use Rattle.dates.specs.Time.{time}
use Rattle.dates.specs.Value.{month, day, date}
use Rattle.refusals.specs.Refusal.{kind_of, file_span}
use Rattle.codes.specs.declared.Words.{Words}
use Rattle.codes.specs.Back.{year_in, has_month_in, month_in, has_day_in, day_in, is_set}

-- a year from two's complement of 32 bits
unfoldable pub from_twos : ℕ → ℤ
from_twos n = pick (ltb n 2147483648) (pos n) (negsuc (4294967295 - n))

-- the month, if there is one
unfoldable pub month_of : ℕ → ℕ → Option Month
month_of has n = pick (eqb has 0) None (month n)

-- the day, if there is one
unfoldable pub day_of : ℕ → ℕ → Option Day
day_of has n = pick (eqb has 0) None (day n)

-- the offset: 0 none, 1 UTC, 2 ahead of it, every other number behind it
unfoldable pub offset_of : ℕ → ℕ → ℕ → Option TimeOffset
offset_of sort hours minutes =
    pick (eqb sort 0) None (pick (eqb sort 1) (Some Utc) (Some (Offset (eqb sort 2) hours minutes)))

-- the time, if there is one
unfoldable pub time_in : ℕ → Option Time
time_in t =
    pick (eqb (t % 256) 0) None
    (Some
    (time (t / 256 % 256) (t / 65536 % 256) (t / 16777216 % 256)
    (offset_of (t / 4294967296 % 256) (t / 1099511627776 % 256) (t / 281474976710656 % 256))))

-- the season: 0 none, 21 spring, 22 summer, 23 autumn, every other number winter
unfoldable pub season_of : ℕ → Option Season
season_of n = pick (eqb n 0) None (pick (eqb n 21) (Some Spring) (pick (eqb n 22) (Some Summer) (pick (eqb n 23) (Some Autumn) (Some Winter))))

-- the Datetime of two words
unfoldable pub datetime_in : ℕ → ℕ → Datetime
datetime_in a t =
    record {
      year = from_twos (year_in a);
      month = month_of (has_month_in a) (month_in a);
      day = day_of (has_day_in a) (day_in a);
      time = time_in t;
      season = season_of (t / 72057594037927936 % 256);
    }

-- the point or range, by its shape
unfoldable pub value_in : Words → DateValue
value_in w =
    pick (eqb (w.last % 256) 0) (At (datetime_in w.first w.first_time))
    (pick (eqb (w.last % 256) 1) (After (datetime_in w.first w.first_time))
    (pick (eqb (w.last % 256) 2) (Before (datetime_in w.first w.first_time))
    (Between (datetime_in w.first w.first_time) (datetime_in w.second w.second_time))))

-- the Date
unfoldable pub date_in : Words → Date
date_in w = date (value_in w) (is_set (w.last / 256 % 256)) (is_set (w.last / 65536 % 256))

-- what a reader answered: the Date if the refusal's number is 0, or the refusal of that number with its place
unfoldable pub read_in : Words → Result Date Refusal
read_in w =
    pick (eqb (w.last / 4294967296 % 256) 0) (Ok (date_in w))
    (Err (record { kind = kind_of (w.last / 4294967296 % 256); place = file_span w.start w.end }))
