-- Instants: the day's number times 86,400 plus the time's seconds in UTC; and their order.
use Rattle.std.specs.Prelude.{◌≡◌, false, ℤ, pos, ◌+ℤ◌, ◌*ℤ◌, Option, Some, None, Result, Ok, Err}
use Rattle.std.specs.declared.cmp.Ordering.{Ordering}
use Rattle.chars.specs.Pick.{pick}
use Rattle.refusals.specs.declared.Kind.{Kind}
use Rattle.refusals.specs.declared.Kind.TheVariants.{BadTime, NoInstant}
use Rattle.refusals.specs.Refusal.{file_span, refusal}
use Rattle.dates.specs.declared.Day.{Day}
use Rattle.refusals.specs.declared.Refusal.{Refusal}
use Rattle.dates.specs.declared.TimeOffset.{TimeOffset}
use Rattle.dates.specs.declared.Time.{Time}
use Rattle.dates.specs.declared.Datetime.{Datetime}
use Rattle.dates.specs.Time.{utc_seconds}
use Rattle.days.specs.declared.Period.{Period}
use Rattle.days.specs.Covered.{covered}
use Rattle.order.specs.Order.{number_order}
use Rattle.dates.specs.Clocks.{has_bad_time}

-- a refusal names no place
unfoldable pub refused_instant : Kind → Result ℤ Refusal
refused_instant k = Err (refusal k (file_span 0 0))

-- the seconds of a time on a day, from the start of day 0 in UTC
unfoldable pub seconds_at : ℤ → Time → ℤ
seconds_at day t = day *ℤ pos 86400 +ℤ utc_seconds t

-- a time without an offset is no instant
unfoldable pub on_time : ℤ → Time → Option TimeOffset → Result ℤ Refusal
on_time day t None = refused_instant NoInstant
on_time day t (Some o) = Ok (seconds_at day t)

-- nor is a date without a day, or without a time
unfoldable pub on_day_and_time : ℤ → Option Day → Option Time → Result ℤ Refusal
on_day_and_time first None time = refused_instant NoInstant
on_day_and_time first (Some d) None = refused_instant NoInstant
on_day_and_time first (Some d) (Some t) = on_time first t t.offset

-- a date of the calendar, with no bad time
unfoldable pub on_covered : Datetime → Result Period Refusal → Result ℤ Refusal
on_covered d (Ok p) = pick (has_bad_time d) (refused_instant BadTime) (on_day_and_time p.first d.day d.time)
on_covered d (Err e) = Err e

-- the instant of a Datetime
unfoldable pub instant_of : Datetime → Result ℤ Refusal
instant_of d = on_covered d (covered d)

-- two instants; all about the first comes before the second
unfoldable pub both : Result ℤ Refusal → Result ℤ Refusal → Result (Option Ordering) Refusal
both (Err e) j = Err e
both (Ok x) (Err e) = Err e
both (Ok x) (Ok y) = Ok (number_order x y)

-- how the first stands to the second
unfoldable pub compared : Datetime → Datetime → Result (Option Ordering) Refusal
compared a b = both (instant_of a) (instant_of b)

-- what has an instant, and that x is it
pub record Told (a : Datetime) (x : ℤ) : Type 0 where
  -- the days that it covers
  pub p : Period
  -- its day
  pub d : Day
  -- its time
  pub t : Time
  -- the offset of that
  pub o : TimeOffset
  -- its days are counted: it has no season and is a date of the calendar
  pub days_are : covered a ≡ Ok p
  -- its time is not bad
  pub time_good : has_bad_time a ≡ false
  -- it has a day,
  pub day_is : a.day ≡ Some d
  -- a time
  pub time_is : a.time ≡ Some t
  -- and an offset
  pub offset_is : t.offset ≡ Some o
  -- the number of its day times 86,400, and the seconds of its time in UTC
  pub seconds_are : x ≡ p.first *ℤ pos 86400 +ℤ utc_seconds t

-- a day, a time or an offset is absent
pub data Absent : Option Day → Option Time → Type 0 where
  no_day : {ti : Option Time} → Absent None ti
  no_time : {da : Option Day} → Absent da None
  no_offset : {da : Option Day} {t : Time} → t.offset ≡ None → Absent da (Some t)

-- its days are counted
abbrev pub HasDays : Datetime → Type 0
HasDays a = (p : Period) × (covered a ≡ Ok p)
