-- When the ported reader puts a year of two digits into the window of a hundred years, and of which digits the years are that it reads.
-- Each definition goes as the reader's own: `point` in `points/specs/Point.antt`, `halves` and `value` in `datefield/specs/Value.antt`.
use Prim.Native.Char.{code}
use Rattle.std.specs.Prelude.{ℕ, ◌+◌, ◌≡◌, Bool, false, ◌||◌, List, ◌⊎◌, ℤ, take, drop, Ok}
use Rattle.chars.specs.Pick.{pick}
use Rattle.scanner.specs.declared.Cursor.{Cursor}
use Rattle.dates.specs.declared.DateValue.{DateValue}
use Rattle.dates.specs.declared.DateValue.TheVariants.{At, After, Before, Between}
use Rattle.numbers.specs.declared.Digits.TheVariants.{Two, Four}
use Rattle.numbers.specs.Number.{parse_int}
use Rattle.chunks.specs.Format.{formatted}
use Rattle.chunks.specs.Upper.{uppercase}
use Rattle.points.specs.Point.{windowed, short_year}
use Rattle.xranges.specs.Written.{WrittenRange}
use Rattle.datefield.specs.Text.{trimmed, unmarked, first_of, is_open}
use Rattle.verdicts.specs.Dates.{cell_table}
use Rattle.verdicts.specs.Windows.{stands, is_int}

-- the text that the ported reader takes apart: a cell's text in upper case, without the white space at its end and without one final mark
unfoldable pub text_read : List ℕ → List ℕ
text_read s = unmarked (trimmed (uppercase (formatted s (cell_table s))))

-- the half before the first slash: all of the text if there is none
abbrev pub half_before : List ℕ → List ℕ
half_before s = take (first_of (code "/") s) s

-- the half behind it: nothing if there is none
abbrev pub half_behind : List ℕ → List ℕ
half_behind s = drop (first_of (code "/") s + 1) s

-- whether the year of a point is put into the window: it is where a short year is found
unfoldable pub puts_point : List ℕ → Bool
puts_point s = is_int (short_year s 0)

-- whether that of a half is: an open one has no year
unfoldable pub puts_half : List ℕ → Bool
puts_half s = pick (is_open s) false (puts_point s)

-- whether a year of a text is: an X anywhere makes an X range, in which none is; else a slash a range; else the text is a point
unfoldable pub puts_year : List ℕ → Bool
puts_year s =
    pick (stands (code "X") s) false (pick (stands (code "/") s) (puts_half (half_before s) || puts_half (half_behind s)) (puts_point s))

-- a text begins with two digits, behind white space and a sign or none, and the year is their number put into the window
pub data TwoDigits (s : List ℕ) : ℤ → Type 0 where
  two : {y : ℤ} {next : Cursor} → parse_int s 0 Two ≡ Ok (y, next) → TwoDigits s (windowed y)

-- it begins with four digits likewise, and the year is their number as it is
pub data FourDigits (s : List ℕ) : ℤ → Type 0 where
  four : {y : ℤ} {next : Cursor} → parse_int s 0 Four ≡ Ok (y, next) → FourDigits s y

-- what holds of the text and the year of every end: of a range an end's text is its half
abbrev pub EachYear : (List ℕ → ℤ → Type 0) → List ℕ → DateValue → Type 0
EachYear P s (At d) = P s d.year
EachYear P s (After a) = P (half_before s) a.year
EachYear P s (Before b) = P (half_behind s) b.year
EachYear P s (Between a b) = P (half_before s) a.year × P (half_behind s) b.year

-- what holds of them of one of the ends
abbrev pub SomeYear : (List ℕ → ℤ → Type 0) → List ℕ → DateValue → Type 0
SomeYear P s (At d) = P s d.year
SomeYear P s (After a) = P (half_before s) a.year
SomeYear P s (Before b) = P (half_behind s) b.year
SomeYear P s (Between a b) = P (half_before s) a.year ⊎ P (half_behind s) b.year

-- a Date is a range from the one end to the other of an X range, as the text's own characters say it
abbrev pub IsXRange : List ℕ → DateValue → Type 0
IsXRange s (At d) = ⊥
IsXRange s (After a) = ⊥
IsXRange s (Before b) = ⊥
IsXRange s (Between a b) = WrittenRange s a b
