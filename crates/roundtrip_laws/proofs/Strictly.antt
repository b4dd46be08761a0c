-- What the strict reader accepts is a date of the calendar at each end, whatever its time. Without a time it is a Date of the domain: so it
-- survives writing and strict rereading. By derivation.
-- Assumes nothing.
use mathlib.Core.Path.{◌≡◌, refl}
use mathlib.Core.Bool.{true, false}
use mathlib.Core.List.{List}
use Prim.Native.Nat.{ℕ, zero, suc, ◌<◌}
use native.Mathlib.Omega.{arith}
use borrow.Author.Tests.{le-leb}
use lib.Dec.{leb, lit<}
use lib.IntN.{ℤ, pos, neg_ℤ, nat_abs}
use Rattle.dates.specs.declared.Day.{Day}
use Rattle.dates.specs.declared.Month.{Month}
use Rattle.dates.specs.declared.Time.{Time}
use Rattle.dates.specs.declared.TimeOffset.{TimeOffset}
use Rattle.std.specs.Prelude.{Option, None, Ok}
use Rattle.dates.specs.declared.Datetime.{Datetime}
use Rattle.dates.specs.declared.DateValue.{DateValue}
use Rattle.dates.specs.declared.Date.{Date}
use Rattle.dates.specs.Clocks.{offset_in, zone_in, clock_in, day_beside_month, bad_time, has_bad_time}
use Rattle.dates.specs.Time.{in_range}
use Rattle.dates.specs.Domain.{PartsIn}
use Rattle.dates.specs.Value.{month, day}
use Rattle.dates.proofs.Months.{some-day}
use Rattle.points.specs.Accepted.{Dated}
use Rattle.strict.specs.Grammar.{Year, dddd, -dddd, Field, field, Zone, no_zone, ahead, behind, Clock, no_time, hh:mm:ss, no_day, -dd, InYear, no_month, -mm, Point, point, last_day, Unknown, dd_xx, ddd_x, dddd_XX, dddd_XX_XX, dddd_mm_XX, Value, alone, between, after, before, unknown, Text, text}
use Rattle.reading_laws.specs.Field.{parsed_strict}
use Rattle.roundtrip_laws.specs.Domain.{AllDated, InDomain, Untimed}
use Rattle.roundtrip_laws.proofs.StrictRead.{derivation}
use Rattle.roundtrip_laws.proofs.Accepted.{dated, in-domain}

pub negated : (n : ℕ) → nat_abs (neg_ℤ (pos n)) ≡ n
negated zero = refl
negated (suc n) = refl

pub year_in : {s : List ℕ} {y : ℤ} → Year s y → nat_abs y < 10000
year_in (dddd n h) = h
year_in (-dddd n h) = rw (negated n) h

parts_in : {y : ℤ} {s : List ℕ} {m : Option Month} {d : Option Day} {c : Option Time} → InYear y s m d c → PartsIn y m d
parts_in no_month = tt
parts_in (-mm (field m h) no_day) = omega arith
parts_in (-mm (field m h) (-dd (field d k) t)) = (omega arith, omega arith)

-- a field's number is at most the last one
field_in : {c last n : ℕ} {s : List ℕ} → Field c 0 last s n → leb n last ≡ true
field_in {last = last} (field n h) = le-leb n last (omega (arith, h))

zone_in_lem : {s : List ℕ} {o : Option TimeOffset} → Zone s o → zone_in o ≡ true
unfolding zone_in offset_in
zone_in_lem no_zone = refl
zone_in_lem Zone.z = refl
zone_in_lem (ahead h m) = rw (field_in h, field_in m)
zone_in_lem (behind h m) = rw (field_in h, field_in m)

clock-in : {s : List ℕ} {c : Option Time} → Clock s c → bad_time true c ≡ false
unfolding bad_time clock_in in_range
clock-in no_time = refl
clock-in (hh:mm:ss h m c o) = rw (field_in h, field_in m, field_in c, zone_in_lem o)

time_in : {y : ℤ} {s : List ℕ} {m : Option Month} {d : Option Day} {c : Option Time} → InYear y s m d c → bad_time (day_beside_month m d) c ≡ false
unfolding day_beside_month bad_time
time_in no_month = refl
time_in (-mm f no_day) = refl
time_in (-mm f (-dd g c)) = clock-in c

pub point-dated : {s : List ℕ} {a : Datetime} → Point s a → Dated a
unfolding has_bad_time
point-dated (point y p) = record { year_in = year_in y; parts_in = parts_in p; time_in = time_in p; unseasoned = refl }

pub unknown-dated : {s : List ℕ} {v : DateValue} → Unknown s v → AllDated v
unfolding last_day
unknown-dated (dd_xx n h) = (dated _ None None (omega arith) tt, dated _ None None (omega arith) tt)
unknown-dated (ddd_x n h) = (dated _ None None (omega arith) tt, dated _ None None (omega arith) tt)
unknown-dated (dddd_XX n h) = (dated n (month 0) None h (lit< tt), dated n (month 11) None h (lit< tt))
unknown-dated (dddd_XX_XX n h) = (dated n (month 0) None h (lit< tt), dated n (month 11) None h (lit< tt))
unknown-dated (dddd_mm_XX n h (field m k)) =
    let l : m < 12 = omega arith in
    let f = some-day m (pos n) l in
    (dated n (month m) (day 0) h (l, f), dated n (month m) (day (last_day m n)) h (l, omega (arith, f)))

value-dated : {s : List ℕ} {v : DateValue} → Value Point s v → AllDated v
value-dated (alone p) = point-dated p
value-dated (between p q) = (point-dated p, point-dated q)
value-dated (after p) = point-dated p
value-dated (before p) = point-dated p
value-dated (unknown x) = unknown-dated x

text-dated : {s : List ℕ} {d : Date} → Text s d → AllDated d.value
text-dated (text v m) = value-dated v

-- an accepted text gives dates of the calendar, whatever their time,
pub strict-dated : (b table : List ℕ) {d : Date} → parsed_strict b table ≡ Ok d → AllDated d.value
strict-dated b table e = text-dated (derivation b table e)

-- so a Date of the domain, if it has no time
pub strict_in : (b table : List ℕ) {d : Date} → parsed_strict b table ≡ Ok d → Untimed d.value → InDomain d.value
strict_in b table {d} e t = in-domain d.value (strict-dated b table e) t
