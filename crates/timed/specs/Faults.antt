-- Why a time is bad: seven causes.
use Rattle.std.specs.Prelude.{ℕ, ◌<◌, ◌≡◌, Bool, Option, Some, None}
use Rattle.dates.specs.declared.Month.{Month}
use Rattle.dates.specs.declared.Day.{Day}
use Rattle.dates.specs.declared.TimeOffset.TheVariants.{Offset}
use Rattle.dates.specs.declared.Time.{Time}
use Rattle.dates.specs.declared.Datetime.{Datetime}
use Rattle.dates.specs.declared.DateValue.{DateValue}
use Rattle.dates.specs.Ends.{SomeEnd}

-- one of them, of a month, a day and a time
pub data TimeFault : Option Month → Option Day → Option Time → Type 0 where
  -- there is no month
  no_month : {da : Option Day} {t : Time} → TimeFault None da (Some t)
  -- there is no day beside the month
  no_day : {m : Month} {t : Time} → TimeFault (Some m) None (Some t)
  -- a part is above its range
  hour_above : {mo : Option Month} {da : Option Day} {t : Time} → 23 < t.hour → TimeFault mo da (Some t)
  minute_above : {mo : Option Month} {da : Option Day} {t : Time} → 59 < t.minute → TimeFault mo da (Some t)
  second_above : {mo : Option Month} {da : Option Day} {t : Time} → 59 < t.second → TimeFault mo da (Some t)
  -- a part of the offset is
  offset_hours : {mo : Option Month} {da : Option Day} {t : Time} {p : Bool} {h m : ℕ} → t.offset ≡ Some (Offset p h m) → 23 < h → TimeFault mo da (Some t)
  offset_minutes : {mo : Option Month} {da : Option Day} {t : Time} {p : Bool} {h m : ℕ} → t.offset ≡ Some (Offset p h m) → 59 < m → TimeFault mo da (Some t)

-- of a Datetime
abbrev pub EndFault : Datetime → Type 0
EndFault d = TimeFault d.month d.day d.time

-- of one of the ends of a point or range
abbrev pub FaultIn : DateValue → Type 0
FaultIn v = SomeEnd EndFault v
