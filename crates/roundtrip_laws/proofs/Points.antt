-- A point of the strict grammar, read by the ported reader, is the Datetime that its derivation says; and what bytes stand in its text.
-- Assumes nothing.
use mathlib.Core.Path.{◌≡◌, ap, ◌∙◌, subst}
use mathlib.Core.List.{List, ◌∷◌, ◌++◌}
use Prim.Native.Nat.{ℕ, ◌+◌}
use native.Mathlib.Nat.{zero-add}
use native.Mathlib.Omega.{arith}
use lib.IntN.{ℤ}
use lib.ListN.{length}
use Rattle.scanner.proofs.Front.{From, from_start, from-behind}
use Rattle.numbers.proofs.Reading.{bytes, Behind, end, hyphen}
use Rattle.dates.specs.declared.Day.{Day}
use Rattle.dates.specs.declared.Month.{Month}
use Rattle.dates.specs.declared.Time.{Time}
use Rattle.dates.specs.declared.TimeOffset.{TimeOffset}
use Rattle.std.specs.Prelude.{Option, Ok}
use Rattle.dates.specs.declared.Datetime.{Datetime}
use Rattle.dates.specs.Value.{datetime, month, day}
use Rattle.dates.proofs.Lengths.{length_most}
use Rattle.dates.specs.Time.{time}
use Rattle.points.specs.Time.{behind_second}
use Rattle.points.specs.Point.{with_time, behind_day, behind_month, behind_year, point}
use Rattle.points.proofs.Back.{two, two_digits, four, four_digits, part_bytes, plain-year, minus-year, on-year, year-end, month_read, month-end, day_read, day-end, two-behind}
use Rattle.points.proofs.Times.{tee, zed, plus, time-read, none_read, utc-read, plus-read, minus-read}
use Rattle.strict.specs.Grammar.{Year, dddd, -dddd, Field, field, Zone, no_zone, z, ahead, behind, Clock, no_time, hh:mm:ss, InMonth, no_day, -dd, InYear, no_month, -mm, Point}
use Rattle.strict.specs.Grammar
use Rattle.roundtrip_laws.proofs.Bytes.{InPoint, PointText, Piece, empty, joined, bytes-piece, minus-in, plus-in, colon-in, tee-in, zed-in}
use Rattle.roundtrip_laws.proofs.Bytes.Each.{none, more}

-- what stands behind each piece
zone-behind : {t : List ℕ} {o : Option TimeOffset} → Zone t o → Behind t
zone-behind no_zone = end
zone-behind z = zed
zone-behind (ahead (field h _) m) = plus
zone-behind (behind (field h _) m) = hyphen

clock-behind : {t : List ℕ} {c : Option Time} → Clock t c → Behind t
clock-behind no_time = end
clock-behind (hh:mm:ss (field h _) m s o) = tee

month-behind : {y : ℤ} {m : ℕ} {t : List ℕ} {d : Option Day} {c : Option Time} → InMonth y m t d c → Behind t
month-behind no_day = end
month-behind (-dd (field d _) c) = hyphen

year-behind : {y : ℤ} {t : List ℕ} {m : Option Month} {d : Option Day} {c : Option Time} → InYear y t m d c → Behind t
year-behind no_month = end
year-behind (-mm (field m _) d) = hyphen

-- each piece, read where it stands
module _ (h m sec : ℕ) {s : List ℕ} {i : ℕ} where
  zone-read : {t : List ℕ} {o : Option TimeOffset} → Zone t o → From s i t → behind_second s i h m sec ≡ Ok (time h m sec o)
  zone-read no_zone f = none_read h m sec f
  zone-read z f = utc-read h m sec f
  zone-read (ahead (field oh a) (field om b)) f = plus-read h m sec oh om (omega arith) (omega arith) (simp zero-add at f)
  zone-read (behind (field oh a) (field om b)) f = minus-read h m sec oh om (omega arith) (omega arith) (simp zero-add at f)

clock-read : (y : ℤ) (m : Option Month) (d : Option Day) {s t : List ℕ} {i : ℕ} {c : Option Time} → Clock t c → From s i t → behind_day s i y m d ≡ Ok (datetime y m d c)
unfolding with_time
clock-read y m d no_time f = day-end y m d f
clock-read y mo d {s} {t} {i} (hh:mm:ss {v = v} (field h a) (field m b) (field sec c) o) f =
    let g : From s i (84 ∷ bytes (two h) ++ (58 ∷ bytes (two m) ++ (58 ∷ bytes (two sec) ++ v))) = simp zero-add at f in
    time-read y mo d h m sec (omega arith) (omega arith) (omega arith) (zone-behind o) g
    ∙ ap (with_time y mo d) (zone-read h m sec o (two-behind (two-behind (two-behind g))))

-- a month or a day is written from one
part-from : (n : ℕ) {s t : List ℕ} {i : ℕ} → From s i (45 ∷ bytes (two (1 + n)) ++ t) → From s i (part_bytes n ++ t)
part-from n {s} {t} {i} f = subst (λ (k : ℕ). From s i (45 ∷ bytes (two k) ++ t)) (omega arith) f

in-month-read : (y : ℤ) (m : ℕ) {s t : List ℕ} {i : ℕ} {d : Option Day} {c : Option Time} → InMonth y m t d c → From s i t → behind_month s i y (record { 0 = m }) ≡ Ok (datetime y (month m) d c)
in-month-read y m no_day f = month-end y (record { 0 = m }) f
in-month-read y m (-dd {t = b} (field d h) c) f =
    let l = length_most m y in
    day_read y (record { 0 = m }) d (omega arith) (omega arith) (clock-behind c) (part-from d f)
    ∙ clock-read y (month m) (day d) c (two-behind f)

in-year-read : (y : ℤ) {s t : List ℕ} {i : ℕ} {m : Option Month} {d : Option Day} {c : Option Time} → InYear y t m d c → From s i t → behind_year s i y ≡ Ok (datetime y m d c)
in-year-read y no_month f = year-end y f
in-year-read y (-mm (field m h) d) f =
    month_read y m (omega arith) (month-behind d) (part-from m f)
    ∙ in-month-read y m d (two-behind f)

year-goes : {s t : List ℕ} {y : ℤ} → Year s y → Behind t → point (s ++ t) ≡ behind_year (s ++ t) (0 + length s) y
year-goes {t = t} (dddd n h) b = let f = from_start (bytes (four n) ++ t) in on-year (bytes (four n) ++ t) (plain-year n h b f)
year-goes {t = t} (-dddd n h) b = let f = from_start (45 ∷ bytes (four n) ++ t) in on-year (45 ∷ bytes (four n) ++ t) (minus-year n h b f)

-- a derived point is read as what it says
pub point-read : {s : List ℕ} {d : Datetime} → Point s d → point s ≡ Ok d
point-read (Grammar.point {s = s} {t = t} {y = y} a b) = year-goes a (year-behind b) ∙ in-year-read y b (from-behind s (from_start (s ++ t)))

field-piece : {c first last n : ℕ} {s : List ℕ} → InPoint c → Field c first last s n → Piece 3 s
field-piece {first = first} p (field n h) =
    let b = bytes-piece (two (first + n)) (two_digits (first + n)) in
    record { in_point = more p b.in_point; short = omega arith }

zone-piece : {t : List ℕ} {o : Option TimeOffset} → Zone t o → Piece 6 t
zone-piece no_zone = empty
zone-piece z = record { in_point = more zed-in none; short = omega arith }
zone-piece (ahead h m) = joined (field-piece plus-in h) (field-piece colon-in m)
zone-piece (behind h m) = joined (field-piece minus-in h) (field-piece colon-in m)

clock-piece : {t : List ℕ} {c : Option Time} → Clock t c → Piece 15 t
clock-piece no_time = empty
clock-piece (hh:mm:ss h m s o) = joined (field-piece tee-in h) (joined (field-piece colon-in m) (joined (field-piece colon-in s) (zone-piece o)))

month-piece : {y : ℤ} {m : ℕ} {t : List ℕ} {d : Option Day} {c : Option Time} → InMonth y m t d c → Piece 18 t
month-piece no_day = empty
month-piece (-dd d c) = joined (field-piece minus-in d) (clock-piece c)

year-piece : {y : ℤ} {t : List ℕ} {m : Option Month} {d : Option Day} {c : Option Time} → InYear y t m d c → Piece 21 t
year-piece no_month = empty
year-piece (-mm m d) = joined (field-piece minus-in m) (month-piece d)

-- the text of a derived point
pub point-text : {s : List ℕ} {d : Datetime} → Point s d → PointText s
point-text (Grammar.point {t = t} (dddd n h) b) =
    let p = joined (bytes-piece (four n) (four_digits n)) (year-piece b) in
    record { in_point = p.in_point; long = omega arith; short = omega arith }
point-text (Grammar.point {t = t} (-dddd n h) b) =
    let p = joined (bytes-piece (four n) (four_digits n)) (year-piece b) in
    record { in_point = more minus-in p.in_point; long = omega arith; short = omega arith }
