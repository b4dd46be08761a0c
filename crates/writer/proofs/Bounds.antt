-- How long a text and the fields of a date can be: at most 40 and 79 bytes, and both are reached. With a year of four digits and a month and
-- a day of two, a text has at most 24. Assumes nothing.
use mathlib.Core.Path.{◌≡◌, refl}
use mathlib.Core.Bool.{Bool, true, false}
use mathlib.Core.List.{List, ◌++◌}
use Prim.Native.Nat.{ℕ, ◌+◌, ◌*◌, ◌≤◌, ◌<◌}
use native.Mathlib.Omega.{arith}
use lib.Dec.{eqb, ltb}
use lib.ListN.{length, length-append}
use lib.IntN.{ℤ, pos, negsuc, nat_abs}
use mir.Syntax.{w32}
use mir.Val.{SFits}
use Rattle.chars.specs.Pick.{pick}
use Rattle.chars.proofs.Cases.{by-test}
use Rattle.dates.specs.declared.Day.{Day}
use Rattle.dates.specs.declared.Month.{Month}
use Rattle.std.specs.Prelude.{Option, Some, None}
use Rattle.dates.specs.declared.WrittenMonth.{WrittenMonth}
use Rattle.dates.specs.declared.WrittenDay.{WrittenDay}
use Rattle.dates.specs.declared.Datetime.{Datetime}
use Rattle.dates.specs.declared.DateValue.{DateValue}
use Rattle.dates.specs.declared.DateValue.TheVariants.{At, After, Before, Between}
use Rattle.dates.specs.declared.Date.{Date}
use Rattle.dates.specs.Ends.{EachEnd, joined}
use Rattle.dates.specs.Value.{month, day, datetime, date}
use Rattle.dates.proofs.Signs.{fits-abs}
use Rattle.writer.specs.declared.Parts.{Parts}
use Rattle.writer.specs.declared.Parts.TheVariants.{NoParts, WithMonth, WithDay, TooLarge}
use Rattle.chars.specs.Ascii.{ascii}
use Rattle.puts.specs.Numbers.{count, digit_count, width, decimal}
use Rattle.writer.specs.Texts.{minus, year_text, written_month, written_day, day_parts, month_parts, parts_of, part_text, hyphen_part, parts_text, datetime_text, value_text, date_text, too_large, end_panics, value_panics, panics}
use Rattle.puts.specs.Marks.{mark_text}
use Rattle.writer.specs.Fields.{prefix, line, part_lines, end_lines, value_lines, fields_text}
use Rattle.writer.specs.Sizes.{MonthUnder, DayUnder, Stored, Ends, Narrow, NarrowEnds}
use Rattle.puts.proofs.Counts.{few, length-decimal}
use Rattle.writer.proofs.Pieces.{hyphen-length, line-length}

-- ---- the pieces

at_most : (least n k : ℕ) → least ≤ k → digit_count n ≤ k → width least n ≤ k
unfolding width
at_most least n k h g = by-test (λ (w : ℕ). w ≤ k) (ltb (digit_count n) least) (λ _. h) (λ _. g)

minus-most : (y : ℤ) → length (minus y) ≤ 1
unfolding minus
minus-most (pos n) = omega arith
minus-most (negsuc n) = omega arith

pub year-by : (y : ℤ) (k : ℕ) → 4 ≤ k → digit_count (nat_abs y) ≤ k → length (year_text y) ≤ k + 1
unfolding year_text
year-by y k h g =
    omega (arith, length-append (minus y) (decimal 4 (nat_abs y)), length-decimal 4 (nat_abs y), minus-most y, at_most 4 (nat_abs y) k h g)

pub year-most : (y : ℤ) → SFits w32 y → length (year_text y) ≤ 11
year-most y f = let n = (fits-abs y f).fits in year-by y 10 (omega arith) (few 10 (nat_abs y) (omega arith))

pub year-short : (y : ℤ) → nat_abs y < 10000 → length (year_text y) ≤ 5
year-short y h = year-by y 4 (omega arith) (few 4 (nat_abs y) (omega arith))

part_by : (n k : ℕ) → 2 ≤ k → digit_count n ≤ k → length (part_text n) ≤ k
unfolding part_text
part_by n k h g = omega (arith, length-decimal 2 n, at_most 2 n k h g)

pub part-most : (n : ℕ) → n < 1000 → length (part_text n) ≤ 3
part-most n h = part_by n 3 (omega arith) (few 3 n h)

part-short : (n : ℕ) → n < 100 → length (part_text n) ≤ 2
part-short n h = part_by n 2 (omega arith) (few 2 n h)

-- the written parts of a Datetime have at most so many digits each
data Short (k : ℕ) : Parts → Type 0 where
  none : Short k NoParts
  one : {m : WrittenMonth} → length (part_text m.0) ≤ k → Short k (WithMonth m)
  two : {m : WrittenMonth} {d : WrittenDay} → length (part_text m.0) ≤ k → length (part_text d.0) ≤ k → Short k (WithDay m d)
  over : Short k TooLarge

short-by : (n k : ℕ) → ((i : ℕ) → i ≤ n → length (part_text i) ≤ k) → (m : Option Month) (d : Option Day) → MonthUnder n m → DayUnder n d → Short k (month_parts m d)
unfolding month_parts day_parts written_month written_day
short-by n k f None d h g = none
short-by n k f (Some m) None h g = by-test (Short k) (eqb m.0 255) (λ _. over) (λ _. one (f (m.0 + 1) (omega arith)))
short-by n k f (Some m) (Some d) h g =
    by-test (Short k) (eqb m.0 255) (λ _. over)
    (λ _. by-test (Short k) (eqb d.0 255) (λ _. over) (λ _. two (f (m.0 + 1) (omega arith)) (f (d.0 + 1) (omega arith))))

short : (m : Option Month) (d : Option Day) → MonthUnder 256 m → DayUnder 256 d → Short 3 (month_parts m d)
short = short-by 256 3 λ i h. part-most i (omega arith)

-- ---- texts

parts-most : {k : ℕ} {p : Parts} → Short k p → length (parts_text p) ≤ 2 * k + 2
unfolding parts_text
parts-most none = omega arith
parts-most (one {m} h) = omega (arith, hyphen-length m.0)
parts-most (two {m} {d} h g) = omega (arith, length-append (hyphen_part m.0) (hyphen_part d.0), hyphen-length m.0, hyphen-length d.0)
parts-most over = omega arith

-- of a stored Datetime
pub behind-most : (d : Datetime) → Stored d → length (parts_text (parts_of d)) ≤ 8
unfolding parts_of
behind-most d s = parts-most (short d.month d.day s.month_in s.day_in)

datetime-by : (y k : ℕ) (d : Datetime) → length (year_text d.year) ≤ y → Short k (month_parts d.month d.day) → length (datetime_text d) ≤ y + (2 * k + 2)
unfolding datetime_text parts_of
datetime-by y k d h p = omega (arith, length-append (year_text d.year) (parts_text (month_parts d.month d.day)), parts-most p)

datetime-most : (d : Datetime) → Stored d → length (datetime_text d) ≤ 19
datetime-most d s = datetime-by 11 3 d (year-most d.year s.year_in) (short d.month d.day s.month_in s.day_in)

pub datetime-short : (d : Datetime) → Narrow d → length (datetime_text d) ≤ 11
datetime-short d s =
    datetime-by 5 2 d (year-short d.year s.year_in) (short-by 99 2 (λ i h. part-short i (omega arith)) d.month d.day s.month_in s.day_in)

pub mark-most : (u a : Bool) → length (mark_text u a) ≤ 1
unfolding mark_text
mark-most true true = omega arith
mark-most false true = omega arith
mark-most true false = omega arith
mark-most false false = omega arith

-- a joined text and its mark, by the length of an end
module _ {P : Datetime → Type 0} (text : Datetime → List ℕ) (n : ℕ) (some : 2 ≤ n) (most : (d : Datetime) → P d → length (text d) ≤ n) where
  value-by : (v : DateValue) → EachEnd P v → length (joined text v) ≤ 2 * n + 1
  value-by (At d) s = omega (arith, most d s)
  value-by (After d) s = omega (arith, most d s, length-append (text d) (ascii "/.."))
  value-by (Before d) s = omega (arith, most d s, length-append (ascii "../") (text d))
  value-by (Between a b) s =
      omega (arith, most a s.0, most b s.1, length-append (text a ++ ascii "/") (text b), length-append (text a) (ascii "/"))

  pub joined_by : (d : Date) → EachEnd P d.value → length (joined text d.value ++ mark_text d.uncertain d.approximate) ≤ 2 * n + 2
  joined_by d s =
      omega (arith, length-append (joined text d.value) (mark_text d.uncertain d.approximate), value-by d.value s, mark-most d.uncertain d.approximate)

-- the text of a date has at most 40 bytes
pub text-most : (d : Date) → Ends d.value → length (date_text d) ≤ 40
unfolding date_text value_text
text-most = joined_by datetime_text 19 (omega arith) datetime-most

-- and of one as readers give it at most 24
pub text-short : (d : Date) → NarrowEnds d.value → length (date_text d) ≤ 24
unfolding date_text value_text
text-short = joined_by datetime_text 11 (omega arith) datetime-short

-- ---- fields

-- what the prefix adds to each line
extra : Bool → ℕ
extra end = length (prefix end)

lines-most : (end : Bool) {p : Parts} → Short 3 p → length (part_lines end p) ≤ 18 + extra end + extra end
unfolding part_lines extra
lines-most end none = omega arith
lines-most end (one {m} h) = omega (arith, line-length end (ascii "month=") (part_text m.0))
lines-most end (two {m} {d} h k) =
    omega (arith, length-append (line end (ascii "month=") (part_text m.0)) (line end (ascii "day=") (part_text d.0)), line-length end (ascii "month=") (part_text m.0), line-length end (ascii "day=") (part_text d.0))
lines-most end over = omega arith

end-most : (end : Bool) (d : Datetime) → Stored d → length (end_lines end d) ≤ 35 + extra end + extra end + extra end
unfolding end_lines parts_of extra
end-most end d s =
    omega (arith, length-append (line end (ascii "year=") (year_text d.year)) (part_lines end (month_parts d.month d.day)), line-length end (ascii "year=") (year_text d.year), year-most d.year s.year_in, lines-most end (short d.month d.day s.month_in s.day_in))

first-most : (d : Datetime) → Stored d → length (end_lines false d) ≤ 35
unfolding extra prefix
first-most d s = end-most false d s

second-most : (d : Datetime) → Stored d → length (end_lines true d) ≤ 44
unfolding extra prefix
second-most d s = end-most true d s

values-most : (v : DateValue) → Ends v → length (value_lines v) ≤ 79
unfolding value_lines
values-most (At d) s = omega (arith, first-most d s)
values-most (After d) s = omega (arith, first-most d s)
values-most (Before d) s = omega (arith, first-most d s)
values-most (Between a b) s = omega (arith, length-append (end_lines false a) (end_lines true b), first-most a s.0, second-most b s.1)

-- the fields of a date have at most 79 bytes
pub fields-most : (d : Date) → Ends d.value → length (fields_text d) ≤ 79
unfolding fields_text
fields-most d s = values-most d.value s

-- ---- both are reached, by a Date at which the Rust does not panic

-- -2147483648-255-255, the longest Datetime
abbrev longest : Datetime
longest = datetime (negsuc 2147483647) (month 254) (day 254) None

-- from it to it, uncertain and approximate
abbrev pub widest : Date
widest = date (Between longest longest) true true

longest-stored : Stored longest
longest-stored = record { year_in = record { sfits = omega arith }; month_in = omega arith; day_in = omega arith }

pub widest-stored : Ends widest.value
widest-stored = (longest-stored, longest-stored)

pub widest-written : panics widest ≡ false
unfolding panics value_panics end_panics too_large parts_of month_parts day_parts pick
widest-written = refl

pub text-reached : length (date_text widest) ≡ 40
unfolding date_text value_text datetime_text year_text minus decimal width digit_count count parts_of month_parts day_parts written_month written_day parts_text hyphen_part part_text mark_text pick
text-reached = refl

pub fields-reached : length (fields_text widest) ≡ 79
unfolding fields_text value_lines end_lines line prefix part_lines year_text minus decimal width digit_count count parts_of month_parts day_parts written_month written_day part_text pick
fields-reached = refl
