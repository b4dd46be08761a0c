-- How long the texts are, and the pieces that they are put together of. Over plain variables. Assumes nothing.
use mathlib.Core.Path.{◌≡◌, sym}
use mathlib.Core.Bool.{Bool}
use mathlib.Core.List.{◌++◌}
use Prim.Native.Nat.{ℕ, ◌+◌, ◌≤◌}
use Prim.Native.Char.{code}
use native.Mathlib.Omega.{arith}
use lib.ListN.{length, length-append}
use Rattle.chars.specs.Ascii.{ascii}
use Rattle.dates.specs.declared.TimeOffset.{TimeOffset}
use Rattle.dates.specs.declared.TimeOffset.TheVariants.{Utc, Offset}
use Rattle.std.specs.Prelude.{Option, Some, None}
use Rattle.dates.specs.declared.Time.{Time}
use Rattle.dates.specs.declared.Datetime.{Datetime}
use Rattle.dates.specs.declared.DateValue.{DateValue}
use Rattle.dates.specs.declared.DateValue.TheVariants.{At, After, Before, Between}
use Rattle.dates.specs.declared.Date.{Date}
use Rattle.writer.specs.Texts.{datetime_text, date_text}
use Rattle.puts.specs.Marks.{mark_text}
use Rattle.writer.specs.Texts as untimed
use Rattle.timed.specs.Texts.{field, sign, offset_text, zone_text, clock_text, time_text, end_text, value_text, timed_text, times_text}

-- a time is nine bytes and its offset
pub clock-length : (t : Time) → length (clock_text t) ≡ 9 + length (zone_text t.offset)
unfolding clock_text field
clock-length t = omega arith

-- of a time that is there
pub some-length : {t : Option Time} (u : Time) {n : ℕ} → t ≡ Some u → n ≡ length (zone_text u.offset) → 9 + n ≡ length (time_text t)
unfolding time_text
some-length u e f = rw (e, f) (sym (clock-length u))

-- an offset by its parts, its sign told
pub shift-text : {o : TimeOffset} (p : Bool) (h m : ℕ) {r : ℕ} → o ≡ Offset p h m → r ≡ sign p → offset_text o ≡ field r h ++ field (code ":") m
unfolding offset_text
shift-text p h m e f = rw (e, f)

zone-most : (o : Option TimeOffset) → length (zone_text o) ≤ 6
unfolding zone_text offset_text field
zone-most None = omega arith
zone-most (Some o) = go o
  where
    go : (o : TimeOffset) → length (offset_text o) ≤ 6
    go Utc = omega arith
    go (Offset p h m) = omega arith

time-most : (t : Option Time) → length (time_text t) ≤ 15
unfolding time_text
time-most None = omega arith
time-most (Some t) = omega (arith, clock-length t, zone-most t.offset)

times-most : (v : DateValue) → length (times_text v) ≤ 30
unfolding times_text
times-most (At d) = omega (arith, time-most d.time)
times-most (After d) = omega (arith, time-most d.time)
times-most (Before d) = omega (arith, time-most d.time)
times-most (Between a b) = omega (arith, time-most a.time, time-most b.time, length-append (time_text a.time) (time_text b.time))

-- a text with its times is as long as the text without them and the times
end-length : (d : Datetime) → length (end_text d) ≡ length (datetime_text d) + length (time_text d.time)
unfolding end_text
end-length d = length-append (datetime_text d) (time_text d.time)

value-length : (v : DateValue) → length (value_text v) ≡ length (untimed.value_text v) + length (times_text v)
unfolding value_text untimed.value_text times_text
value-length (At d) = end-length d
value-length (After d) = omega (arith, end-length d, length-append (end_text d) (ascii "/.."), length-append (datetime_text d) (ascii "/.."))
value-length (Before d) = omega (arith, end-length d, length-append (ascii "../") (end_text d), length-append (ascii "../") (datetime_text d))
value-length (Between a b) =
    omega (arith, end-length a, end-length b, length-append (end_text a ++ ascii "/") (end_text b), length-append (end_text a) (ascii "/"), length-append (datetime_text a ++ ascii "/") (datetime_text b), length-append (datetime_text a) (ascii "/"), length-append (time_text a.time) (time_text b.time))

pub timed-length : (d : Date) → length (timed_text d) ≡ length (date_text d) + length (times_text d.value)
unfolding timed_text date_text
timed-length d =
    let v = d.value in
    let m = mark_text d.uncertain d.approximate in
    omega (arith, value-length v, length-append (value_text v) m, length-append (untimed.value_text v) m)

-- so it is at most 70 bytes, if the other is at most 40
pub timed-most : (d : Date) → length (date_text d) ≤ 40 → length (timed_text d) ≤ 70
timed-most d h = omega (arith, timed-length d, times-most d.value)
