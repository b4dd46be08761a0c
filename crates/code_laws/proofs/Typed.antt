-- The numbers of a derived point, and of one without a time, are of their types. Assumes nothing.
use mathlib.Core.List.{List, [], ◌∷◌}
use Prim.Native.Nat.{ℕ, ◌<◌}
use native.Mathlib.Omega.{arith}
use lib.Dec.{lit<}
use lib.IntN.{ℤ, pos, negsuc, nat_abs}
use lib.Signed.{mag}
use Rattle.dates.specs.declared.Day.{Day}
use Rattle.dates.specs.declared.Month.{Month}
use Rattle.dates.specs.declared.TimeOffset.{TimeOffset}
use Rattle.std.specs.Prelude.{Option, None}
use Rattle.dates.specs.declared.Time.{Time}
use Rattle.dates.specs.declared.Datetime.{Datetime}
use Rattle.dates.specs.Value.{datetime}
use Rattle.dates.proofs.Lengths.{length_most}
use Rattle.strict.specs.Grammar.{field, Zone, no_zone, ahead, behind, Clock, no_time, hh:mm:ss, no_day, -dd, InYear, no_month, -mm, Point, point}
use Rattle.codes.specs.Words.{month_number, day_number, clock_of, shift_of, hours_of, minutes_of}
use Rattle.codes.specs.Typed.{Bytes, stored, DatetimeTyped}
use Rattle.roundtrip_laws.proofs.Strictly.{year_in}

-- a year of four digits
year-small : (y : ℤ) → nat_abs y < 10000 → mag y < 2147483648
year-small (pos n) h = omega arith
year-small (negsuc n) h = omega arith

-- a time, its offset and its parts
abbrev shifts : Option TimeOffset → List ℕ
shifts o = hours_of (shift_of o) ∷ minutes_of (shift_of o) ∷ []

abbrev clocks : Time → List ℕ
clocks t = t.hour ∷ t.minute ∷ t.second ∷ shifts t.offset

zone-typed : {s : List ℕ} {o : Option TimeOffset} → Zone s o → Bytes (shifts o)
zone-typed no_zone = (lit< tt, (lit< tt, tt))
zone-typed Zone.z = (lit< tt, (lit< tt, tt))
zone-typed (ahead (field h a) (field m b)) = (omega arith, (omega arith, tt))
zone-typed (behind (field h a) (field m b)) = (omega arith, (omega arith, tt))

clock-typed : {s : List ℕ} {c : Option Time} → Clock s c → Bytes (clocks (clock_of c))
clock-typed no_time = (lit< tt, (lit< tt, (lit< tt, zone-typed no_zone)))
clock-typed (hh:mm:ss (field h a) (field m b) (field n c) o) = (omega arith, (omega arith, (omega arith, zone-typed o)))

parts_typed : {y : ℤ} {s : List ℕ} {m : Option Month} {d : Option Day} {c : Option Time} → InYear y s m d c → Bytes (stored (datetime y m d c))
parts_typed no_month = (lit< tt, (lit< tt, clock-typed no_time))
parts_typed (-mm (field m h) no_day) = (omega arith, (lit< tt, clock-typed no_time))
parts_typed {y} (-mm (field m h) (-dd (field d k) c)) = let l = length_most m y in (omega arith, (omega arith, clock-typed c))

pub point-typed : {s : List ℕ} {d : Datetime} → Point s d → DatetimeTyped d
point-typed (point {y = y} a p) = record { year_typed = year-small y (year_in a); bytes_typed = parts_typed p }

-- any year of an i32, month and day of a byte, without a time
pub untimed-typed : (y : ℤ) (m : Option Month) (d : Option Day) → mag y < 2147483648 → month_number m < 256 → day_number d < 256 → DatetimeTyped (datetime y m d None)
untimed-typed y m d h l k = record { year_typed = h; bytes_typed = (l, (k, clock-typed no_time)) }
