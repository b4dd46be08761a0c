-- The first and the last date of an X range that is read, by the characters that stand in its text.
use Prim.Native.Char.{code}
use Rattle.std.specs.Prelude.{ℕ, ◌+◌, ◌<◌, ◌≡◌, List, ◌++◌, pos, length, take, drop, Option, None}
use Rattle.chars.specs.Ascii.{ascii}
use Rattle.scanner.specs.declared.Class.TheVariants.{Whitespace, Is}
use Rattle.scanner.specs.Scan.{eat_while}
use Rattle.numbers.specs.Parse.{AllDigits, decimal_value}
use Rattle.dates.specs.declared.Day.{Day}
use Rattle.dates.specs.declared.Month.{Month}
use Rattle.dates.specs.declared.Datetime.{Datetime}
use Rattle.dates.specs.Value.{datetime, month as stored, day}

-- the four characters of the year: they stand behind the white space at the text's front
abbrev pub year_chars : List ℕ → List ℕ
year_chars s = take 4 (drop (eat_while Whitespace s 0) s)

-- the place behind white space, hyphens and white space, as many as stand at a place
abbrev pub past_hyphens : List ℕ → ℕ → ℕ
past_hyphens s at = eat_while Whitespace s (eat_while (Is (code "-")) s (eat_while Whitespace s at))

-- the two characters of the month: they stand behind the year and the hyphens there
abbrev pub month_chars : List ℕ → List ℕ
month_chars s = take 2 (drop (past_hyphens s (eat_while Whitespace s 0 + 4)) s)

-- a text is so many digits
pub record DigitsOf (n : ℕ) (t : List ℕ) : Type 0 where
  -- it has digits alone
  pub all : AllDigits t
  -- so many of them
  pub long : length t ≡ n

-- the date of the year that a text's digits denote, with this month and this day
abbrev pub in_year : List ℕ → Option Month → Option Day → Datetime
in_year t m d = datetime (pos (decimal_value t)) m d None

-- two digits and XX: the years with 00 and with 99 for XX. Three and X: those with 0 and with 9 for X. Four, and XX for the month: January
-- and December of the year. Four, and two for the month: its first day and the 31st, whatever its length
pub data WrittenRange (s : List ℕ) : Datetime → Datetime → Type 0 where
  century : {t : List ℕ} → DigitsOf 2 t → year_chars s ≡ t ++ ascii "XX" → WrittenRange s (in_year (t ++ ascii "00") None None) (in_year (t ++ ascii "99") None None)
  decade : {t : List ℕ} → DigitsOf 3 t → year_chars s ≡ t ++ ascii "X" → WrittenRange s (in_year (t ++ ascii "0") None None) (in_year (t ++ ascii "9") None None)
  all_months : DigitsOf 4 (year_chars s) → month_chars s ≡ ascii "XX" → WrittenRange s (in_year (year_chars s) (stored 0) None) (in_year (year_chars s) (stored 11) None)
  all_days : {m : ℕ} → DigitsOf 4 (year_chars s) → DigitsOf 2 (month_chars s) → decimal_value (month_chars s) ≡ m + 1 → m < 12 → WrittenRange s (in_year (year_chars s) (stored m) (day 0)) (in_year (year_chars s) (stored m) (day 30))
