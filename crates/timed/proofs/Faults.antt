-- Which times are bad: exactly those with one of seven causes. Assumes nothing.
use mathlib.Core.Path.{◌≡◌, refl, sym}
use mathlib.Core.Bool.{Bool, true, false, not, ◌&&◌, false≢true}
use mathlib.Core.Logic.{◌↔◌}
use lib.Dec.{leb}
use borrow.Author.Tests.{lt-leb, leb-false}
use Rattle.chars.proofs.Cases.{of_test}
use Rattle.dates.specs.declared.Day.{Day}
use Rattle.dates.specs.declared.Month.{Month}
use Rattle.std.specs.Prelude.{Option, Some, None}
use Rattle.dates.specs.declared.TimeOffset.{TimeOffset}
use Rattle.dates.specs.declared.TimeOffset.TheVariants.{Utc, Offset}
use Rattle.dates.specs.declared.Time.{Time}
use Rattle.dates.specs.declared.Datetime.{Datetime}
use Rattle.dates.specs.declared.DateValue.{DateValue}
use Rattle.dates.specs.Time.{in_range}
use Rattle.dates.specs.Clocks.{offset_in, zone_in, clock_in, day_beside_month, bad_time, has_bad_time}
use Rattle.dates.proofs.Ends.{any-end}
use Rattle.timed.specs.Answers.{value_bad}
use Rattle.timed.specs.Faults.{TimeFault, no_month, no_day, hour_above, minute_above, second_above, offset_hours, offset_minutes, EndFault, FaultIn}

-- one false part makes all false
false-last : (a : Bool) {b : Bool} → b ≡ false → a && b ≡ false
false-last true e = e
false-last false e = refl

out : (a : Bool) {b : Bool} → b ≡ false → not (a && b) ≡ true
out a e = rw (false-last a e)

-- the parts of a clock's time
not-hour : (t : Time) → leb t.hour 23 ≡ false → clock_in t ≡ false
unfolding clock_in in_range
not-hour t e = rw e

not-minute : (t : Time) → leb t.minute 59 ≡ false → clock_in t ≡ false
unfolding clock_in in_range
not-minute t e = rw e (go (leb t.hour 23))
  where
    go : (a : Bool) → (a && false && leb t.second 59) && zone_in t.offset ≡ false
    go true = refl
    go false = refl

not-second : (t : Time) → leb t.second 59 ≡ false → clock_in t ≡ false
unfolding clock_in in_range
not-second t e = rw e (go (leb t.hour 23) (leb t.minute 59))
  where
    go : (a b : Bool) → (a && b && false) && zone_in t.offset ≡ false
    go true true = refl
    go true false = refl
    go false b = refl

not-zone : (t : Time) → zone_in t.offset ≡ false → clock_in t ≡ false
unfolding clock_in
not-zone t e = false-last (in_range t.hour t.minute t.second) e

-- a time with a cause is bad
bad : {mo : Option Month} {da : Option Day} {ti : Option Time} → TimeFault mo da ti → bad_time (day_beside_month mo da) ti ≡ true
unfolding bad_time day_beside_month zone_in offset_in
bad no_month = refl
bad no_day = refl
bad {mo} {da} (hour_above {t} h) = out (day_beside_month mo da) (not-hour t (lt-leb t.hour 23 h))
bad {mo} {da} (minute_above {t} h) = out (day_beside_month mo da) (not-minute t (lt-leb t.minute 59 h))
bad {mo} {da} (second_above {t} h) = out (day_beside_month mo da) (not-second t (lt-leb t.second 59 h))
bad {mo} {da} (offset_hours {t} {h = h} e k) = out (day_beside_month mo da) (not-zone t (rw (e, lt-leb h 23 k)))
bad {mo} {da} (offset_minutes {t} {h = h} {m = m} e k) = out (day_beside_month mo da) (not-zone t (rw e (false-last (leb h 23) (lt-leb m 59 k))))

not-not : (b : Bool) → not b ≡ true → b ≡ false
not-not true e = absurd (false≢true e)
not-not false e = refl

-- and a bad time has one
module _ {mo : Option Month} {da : Option Day} (t : Time) where
  zone-cause : (o : Option TimeOffset) → t.offset ≡ o → zone_in o ≡ false → TimeFault mo da (Some t)
  unfolding zone_in offset_in
  zone-cause None e f = absurd (false≢true (sym f))
  zone-cause (Some o) e f = go o e f
    where
      go : (o : TimeOffset) → t.offset ≡ Some o → offset_in o ≡ false → TimeFault mo da (Some t)
      go Utc e f = absurd (false≢true (sym f))
      go (Offset p h m) e f =
          of_test (leb h 23) (λ q. offset_minutes e (leb-false m 59 (rw q at f))) (λ q. offset_hours e (leb-false h 23 q))

  clock-cause : clock_in t ≡ false → TimeFault mo da (Some t)
  unfolding clock_in in_range
  clock-cause e =
      of_test (leb t.hour 23)
      (λ p.
      of_test (leb t.minute 59)
      (λ q. of_test (leb t.second 59) (λ r. zone-cause t.offset refl (rw (p, q, r) at e)) (λ r. second_above (leb-false t.second 59 r)))
      (λ q. minute_above (leb-false t.minute 59 q)))
      (λ p. hour_above (leb-false t.hour 23 p))

cause : (mo : Option Month) (da : Option Day) (ti : Option Time) → bad_time (day_beside_month mo da) ti ≡ true → TimeFault mo da ti
unfolding bad_time day_beside_month
cause mo da None e = absurd (false≢true e)
cause None da (Some t) e = no_month
cause (Some m) None (Some t) e = no_day
cause (Some m) (Some d) (Some t) e = clock-cause t (not-not (clock_in t) e)

end-bad : (d : Datetime) → (has_bad_time d ≡ true) ↔ EndFault d
unfolding has_bad_time
end-bad d = (cause d.month d.day d.time, λ f. bad f)

-- a point or range has a bad time exactly if one of its ends has such a cause
pub value-bad : (v : DateValue) → (value_bad v ≡ true) ↔ FaultIn v
unfolding value_bad
value-bad v = any-end end-bad v
