-- The text that the writer gives a Datetime of four-digit years is the one that the point reader reads back; and what bytes stand in it.
-- Assumes nothing.
use mathlib.Core.Path.{◌≡◌, refl, ap, ◌∙◌}
use mathlib.Core.List.{List, ◌∷◌}
use Prim.Native.Nat.{ℕ, suc, ◌+◌, ◌^◌, ◌≤◌, ◌<◌}
use native.Mathlib.Omega.{arith}
use native.Mathlib.Decide.{dec_lt}
use borrow.Author.Tests.{ne_eqb}
use lib.IntN.{ℤ, pos, negsuc, nat_abs}
use lib.ListN.{length, length-append}
use Rattle.chars.specs.Pick.{pick}
use Rattle.dates.specs.declared.Day.{Day}
use Rattle.dates.specs.declared.Month.{Month}
use Rattle.std.specs.Prelude.{Option, Some, None}
use Rattle.dates.specs.declared.Datetime.{Datetime}
use Rattle.dates.specs.Domain.{PartsIn, EndIn}
use Rattle.dates.proofs.Lengths.{length_most}
use Rattle.points.proofs.Back.{two, four, two_digits, four_digits, year_bytes, part_bytes, day_bytes, tail_bytes, written}
use Rattle.puts.specs.Numbers.{digits, decimal, width, digit_count}
use Rattle.writer.specs.Texts.{minus, year_text, written_month, written_day, day_parts, month_parts, parts_of, part_text, hyphen_part, parts_text, datetime_text}
use Rattle.puts.proofs.Counts.{few, padded, unpadded}
use Rattle.roundtrip_laws.proofs.Bytes.{PointText, Piece, empty, joined, bytes-piece, minus-in}
use Rattle.roundtrip_laws.proofs.Bytes.Each.{more}

-- a number of at most so many digits is written with just so many
width_is : (least n : ℕ) → n < 10 ^ least → width least n ≡ least
width_is least n h =
    elim (dec_lt (digit_count n) least) [
      | yes l ↦ padded least n l
      | no l ↦ let f = few least n h in unpadded least n (omega (arith, l)) ∙ omega (arith, l)
    ]

pub decimal-is : (least n : ℕ) → n < 10 ^ least → decimal least n ≡ digits least n
unfolding decimal
decimal-is least n h = ap (λ (w : ℕ). digits w n) (width_is least n h)

pub year_is : (y : ℤ) → nat_abs y < 10000 → year_text y ≡ year_bytes y
unfolding year_text minus
year_is (pos n) h = decimal-is 4 n h
year_is (negsuc n) h = ap (λ (l : List ℕ). 45 ∷ l) (decimal-is 4 (suc n) h)

part-is : (n : ℕ) → n + 1 < 100 → hyphen_part (n + 1) ≡ part_bytes n
unfolding hyphen_part part_text
part-is n h = ap (λ (l : List ℕ). 45 ∷ l) (decimal-is 2 (n + 1) h)

-- a month of twelve, and a day beside it that some month has
abbrev pub PartsShort : Option Month → Option Day → Type 0
PartsShort None d = Unit {0}
PartsShort (Some m) None = m.0 < 12
PartsShort (Some m) (Some d) = (m.0 < 12) × (d.0 < 31)

tail-is : (m : Option Month) (d : Option Day) → PartsShort m d → parts_text (month_parts m d) ≡ tail_bytes m d
unfolding parts_text month_parts day_parts written_month written_day pick
tail-is None d h = refl
tail-is (Some m) None h =
    rw (ne_eqb m.0 255 (λ (e : m.0 ≡ 255). omega arith)) (part-is m.0 (omega arith))
tail-is (Some m) (Some d) h =
    rw (ne_eqb m.0 255 (λ (e : m.0 ≡ 255). omega (arith, h.0)), ne_eqb d.0 255 (λ (e : d.0 ≡ 255). omega (arith, h.1)))
    (rw (part-is m.0 (omega (arith, h.0)), part-is d.0 (omega (arith, h.1))))

-- whether or not the month has the day
pub text-short : (d : Datetime) → nat_abs d.year < 10000 → PartsShort d.month d.day → datetime_text d ≡ written d
unfolding datetime_text parts_of
text-short d h l = rw (year_is d.year h, tail-is d.month d.day l)

short-of : (y : ℤ) (m : Option Month) (d : Option Day) → PartsIn y m d → PartsShort m d
short-of y None d h = tt
short-of y (Some m) None h = h
short-of y (Some m) (Some d) h = let l = length_most m.0 y in (h.0, omega (arith, h.1))

pub text_is : (d : Datetime) → EndIn d → datetime_text d ≡ written d
text_is d w = text-short d w.year_in (short-of d.year d.month d.day w.parts_in)

-- what bytes stand in it, and how long it is
pub year-piece : (y : ℤ) → Piece 5 (year_bytes y)
year-piece (pos n) = let p = bytes-piece (four n) (four_digits n) in record { in_point = p.in_point; short = omega arith }
year-piece (negsuc n) =
    let p = bytes-piece (four (suc n)) (four_digits (suc n)) in
    record { in_point = more minus-in p.in_point; short = omega arith }

part-piece : (n : ℕ) → Piece 3 (part_bytes n)
part-piece n = let p = bytes-piece (two (n + 1)) (two_digits (n + 1)) in record { in_point = more minus-in p.in_point; short = omega arith }

day-piece : (d : Option Day) → Piece 3 (day_bytes d)
day-piece None = empty
day-piece (Some d) = part-piece d.0

tail-piece : (m : Option Month) (d : Option Day) → Piece 6 (tail_bytes m d)
tail-piece None d = empty
tail-piece (Some m) d = joined (part-piece m.0) (day-piece d)

year-long : (y : ℤ) → 4 ≤ length (year_bytes y)
year-long (pos n) = omega arith
year-long (negsuc n) = omega arith

pub written-text : (d : Datetime) → PointText (written d)
written-text d =
    let p = joined (year-piece d.year) (tail-piece d.month d.day) in
    let y = year-long d.year in
    let e = length-append (year_bytes d.year) (tail_bytes d.month d.day) in
    record { in_point = p.in_point; long = omega arith; short = omega arith }
