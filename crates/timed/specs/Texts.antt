-- The text of a date with its times.
use Rattle.std.specs.Prelude.{ℕ, Bool, true, false, List, [], ◌∷◌, ◌++◌, Option, Some, None}
use Prim.Native.Char.{code}
use Rattle.chars.specs.Ascii.{ascii}
use Rattle.dates.specs.declared.TimeOffset.{TimeOffset}
use Rattle.dates.specs.declared.TimeOffset.TheVariants.{Utc, Offset}
use Rattle.dates.specs.declared.Time.{Time}
use Rattle.dates.specs.declared.Datetime.{Datetime}
use Rattle.dates.specs.declared.DateValue.{DateValue}
use Rattle.dates.specs.declared.DateValue.TheVariants.{At, After, Before, Between}
use Rattle.dates.specs.declared.Date.{Date}
use Rattle.dates.specs.Ends.{joined}
use Rattle.puts.specs.Numbers.{digits}
use Rattle.writer.specs.Texts.{datetime_text}
use Rattle.puts.specs.Marks.{mark_text}

-- a character and two digits
unfoldable pub field : ℕ → ℕ → List ℕ
field c n = c ∷ digits 2 n

-- the sign of an offset
unfoldable pub sign : Bool → ℕ
sign true = code "+"
sign false = code "-"

-- UTC is Z; hours and minutes have their sign, also if both are zero
unfoldable pub offset_text : TimeOffset → List ℕ
offset_text Utc = ascii "Z"
offset_text (Offset positive h m) = field (sign positive) h ++ field (code ":") m

-- an offset, if there is one
unfoldable pub zone_text : Option TimeOffset → List ℕ
zone_text None = []
zone_text (Some o) = offset_text o

-- Thh:mm:ss, then the offset
unfoldable pub clock_text : Time → List ℕ
clock_text t = field (code "T") t.hour ++ field (code ":") t.minute ++ field (code ":") t.second ++ zone_text t.offset

-- a time, if there is one
unfoldable pub time_text : Option Time → List ℕ
time_text None = []
time_text (Some t) = clock_text t

-- one end: what the writer of dates writes, then the time
unfoldable pub end_text : Datetime → List ℕ
end_text d = datetime_text d ++ time_text d.time

-- a point, or a range whose open side is two dots
unfoldable pub value_text : DateValue → List ℕ
value_text v = joined end_text v

-- a date: the point or range, then its mark
unfoldable pub timed_text : Date → List ℕ
timed_text d = value_text d.value ++ mark_text d.uncertain d.approximate

-- the times alone, one behind the other
unfoldable pub times_text : DateValue → List ℕ
times_text (At d) = time_text d.time
times_text (After d) = time_text d.time
times_text (Before d) = time_text d.time
times_text (Between a b) = time_text a.time ++ time_text b.time
