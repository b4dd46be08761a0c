-- Dates and answers as plain structs: what a caller that is not Rattle gets.
use Rattle.std.specs.Prelude.{ℕ, Bool, List, [], ◌∷◌, ℤ, pos, negsuc, Option, Some, None, Result, Ok, Err}
use Rattle.std.specs.declared.cmp.Ordering.{Ordering}
use Rattle.std.specs.declared.cmp.Ordering.TheVariants.{Equal, Greater, Less}
use Rattle.refusals.specs.Refusal.{number}
use Rattle.dates.specs.declared.Datetime.{Datetime}
use Rattle.dates.specs.declared.DateValue.{DateValue}
use Rattle.dates.specs.declared.DateValue.TheVariants.{At, After, Before, Between}
use Rattle.dates.specs.declared.Date.{Date}
use Rattle.dates.specs.Value.{season_number}
use Rattle.refusals.specs.declared.Refusal.{Refusal}
use Rattle.codes.specs.Words.{flag, has_month, month_number, has_day, day_number, has_time, clock_of, offset_sort, shift_of, hours_of, minutes_of, shape_of, day_word_of, time_word_of, last_word}
use Rattle.knobstream.specs.declared.PlainDatetime.{PlainDatetime}
use Rattle.knobstream.specs.declared.PlainDate.{PlainDate}
use Rattle.knobstream.specs.declared.PlainRead.{PlainRead}
use Rattle.knobstream.specs.declared.PlainWritten.{PlainWritten}

-- a Datetime
abbrev pub datetime : Datetime → PlainDatetime
datetime d =
    record {
      year = d.year;
      has_month = has_month d.month;
      month = month_number d.month;
      has_day = has_day d.day;
      day = day_number d.day;
      has_time = has_time d.time;
      hour = (clock_of d.time).hour;
      minute = (clock_of d.time).minute;
      second = (clock_of d.time).second;
      offset = offset_sort (clock_of d.time).offset;
      offset_hours = hours_of (shift_of (clock_of d.time).offset);
      offset_minutes = minutes_of (shift_of (clock_of d.time).offset);
      season = season_number d.season;
    }

-- where there is no Datetime, all numbers are 0
abbrev pub no_datetime : PlainDatetime
no_datetime =
    record {
      year = pos 0;
      has_month = 0;
      month = 0;
      has_day = 0;
      day = 0;
      has_time = 0;
      hour = 0;
      minute = 0;
      second = 0;
      offset = 0;
      offset_hours = 0;
      offset_minutes = 0;
      season = 0;
    }

-- its one Datetime, or its start
abbrev pub first_of : DateValue → PlainDatetime
first_of (At d) = datetime d
first_of (After d) = datetime d
first_of (Before d) = datetime d
first_of (Between a b) = datetime a

-- the end of a range that has both ends
abbrev pub second_of : DateValue → PlainDatetime
second_of (At d) = no_datetime
second_of (After d) = no_datetime
second_of (Before d) = no_datetime
second_of (Between a b) = datetime b

-- the struct of a Date's parts
abbrev pub parts : ℕ → ℕ → ℕ → PlainDatetime → PlainDatetime → PlainDate
parts n u p a b = record { shape = n; uncertain = u; approximate = p; first = a; second = b }

-- a Date of a shape, its Datetimes and its marks
abbrev pub date_with : ℕ → PlainDatetime → PlainDatetime → Bool → Bool → PlainDate
date_with n a b u p = parts n (flag u) (flag p) a b

-- a Date
abbrev pub date : Date → PlainDate
date d = date_with (shape_of d.value) (first_of d.value) (second_of d.value) d.uncertain d.approximate

-- where there is no Date, all numbers are 0
abbrev pub no_date : PlainDate
no_date = parts 0 0 0 no_datetime no_datetime

-- a Date that was read: refusal 0, and place 0, 0
abbrev pub accepted : PlainDate → PlainRead
accepted p = record { start = 0; end = 0; date = p; refusal = 0 }

-- what a reader answers: the Date, or no Date with the refusal's number and place
abbrev pub read : Result Date Refusal → PlainRead
read (Ok d) = accepted (date d)
read (Err e) = record { start = e.place.0; end = e.place.1; date = no_date; refusal = number e.kind }

-- the eight bytes of a Datetime from its year to its day, as a word
abbrev pub day_word : PlainDatetime → ℕ
day_word p = day_word_of p.year p.has_month p.month p.has_day p.day

-- the eight behind them, of which the last is the season
abbrev pub time_word : PlainDatetime → ℕ
time_word p =
    time_word_of p.has_time p.hour p.minute p.second p.offset p.offset_hours p.offset_minutes p.season

-- what a reader answers, as seven words: the place, two for each Datetime, and the last
abbrev pub words : PlainRead → List ℕ
words r =
    r.start ∷ r.end ∷ day_word r.date.first ∷ time_word r.date.first ∷ day_word r.date.second ∷ time_word r.date.second
    ∷ last_word r.date.shape r.date.uncertain r.date.approximate r.refusal ∷ []

-- what a writer answers: how many bytes were stored with refusal 0, or 0 with the refusal's number
abbrev pub written : Result ℕ Refusal → PlainWritten
written (Ok n) = record { length = n; refusal = 0 }
written (Err e) = record { length = 0; refusal = number e.kind }

-- what measuring answers, likewise: how many bytes the text has
abbrev pub measure : Result ℕ Refusal → PlainWritten
measure (Ok n) = record { length = n; refusal = 0 }
measure (Err e) = record { length = 0; refusal = number e.kind }

-- how the first stands to the second
abbrev pub order_number : Option Ordering → ℤ
order_number (Some Less) = negsuc 0
order_number (Some Equal) = pos 0
order_number (Some Greater) = pos 1
order_number None = pos 2

-- what the comparison answers: that, or the refusal's number
abbrev pub compared_number : Result (Option Ordering) Refusal → ℤ
compared_number (Ok o) = order_number o
compared_number (Err e) = pos (number e.kind)
