-- Date fields in upper case as the ported code reads and refuses them, with their places in the file.
-- Assumes nothing.
use mathlib.Core.Path.{◌≡◌, refl}
use mathlib.Core.Bool.{true, false}
use mathlib.Core.List.{List, [], ◌∷◌, map}
use Prim.Native.Nat.{ℕ}
use Prim.Native.String.{String}
use lib.IntN.{pos}
use Rattle.chars.specs.Pick.{pick}
use Rattle.chars.specs.Ascii.{ascii, digit_of}
use Rattle.chars.specs.Classes.{within, is_whitespace, is_ascii_digit, is_numeric}
use Rattle.chars.specs.Signs.{signed}
use Rattle.chars.specs.Utf8.{len_of, is_cont, is_surrogate, decode2, decode3, decode4, decode, first, decode_at}
use Rattle.scanner.specs.Class.{in_class}
use Rattle.scanner.specs.Scan.{len_in, match_len, walk, eat_while, eat_if, eaten, eat_at, stands_at, done_at, part, run_at as scanned_at, next_run}
use Rattle.refusals.specs.declared.FileSpan.{FileSpan}
use Rattle.refusals.specs.declared.Kind.{Kind}
use Rattle.refusals.specs.declared.Kind.TheVariants.{UndefinedRange, DayOutOfRange, InvalidFormat, WrongNumberOfDigits, RustPanics}
use Rattle.refusals.specs.Refusal.{file_span, refusal}
use Rattle.refusals.specs.Offset.{saturating_add, offset, offset_second}
use Rattle.numbers.specs.Number.{admits, run_value, run_of, run_at, parse_unsigned_int, or_kept, behind_sign, with_sign, signed_at, signed_run, int_of, parse_int}
use Rattle.numbers.specs.Parse.{whole_value, digits_from, parse}
use Rattle.numbers.specs.Trim.{step_by, step_over, trim_step, trim_from, trim_end}
use Rattle.dates.specs.Calendar.{multiple, leap_year, february, month_lengths, month_length}
use Rattle.dates.specs.declared.Date.{Date}
use Rattle.refusals.specs.declared.Refusal.{Refusal}
use Rattle.std.specs.Prelude.{None, Result, Ok, Err}
use Rattle.dates.specs.declared.Datetime.{Datetime}
use Rattle.dates.specs.declared.DateValue.{DateValue}
use Rattle.dates.specs.declared.DateValue.TheVariants.{At, After, Before, Between}
use Rattle.dates.specs.Value.{datetime, date, month as stored, day}
use Rattle.points.specs.Step.{refuse_number, stored_part, part_at, month_at, day_at, hyphen_or, hyphen_from, hyphen_at, on_part, on_separator, or_end}
use Rattle.points.specs.Point.{windowed, windowed_int, short_year, long_of, long_year, short_or, year_at, on_year, with_time, time_or, behind_day, behind_month, behind_year, point}
use Rattle.xranges.specs.Range as x
use Rattle.datefield.specs.Text.{trimmed, last_byte, is_uncertain, is_approximate, unmarked, first_of, is_blank, is_dots, is_open}
use Rattle.datefield.specs.Value.{moved, first_half, second_half, on_half, both_halves, halves, x_range, value, marked, trimmed_date, parse_text}

-- a text, the span of its list, and what it is read as
pub record Example : Type 0 where
  pub text : String
  pub span : FileSpan
  pub says : Result Date Refusal

-- a year alone
abbrev year : ℕ → Datetime
year y = datetime (pos y) None None None

-- a date without a mark
abbrev is : String → DateValue → Example
is t v = record { text = t; span = file_span 100 200; says = Ok (date v false false) }

-- a refusal, in a list whose span starts at 100
abbrev no : String → Kind → ℕ → ℕ → Example
no t k a e = record { text = t; span = file_span 100 200; says = Err (record { kind = k; place = file_span a e }) }

-- a refusal, in a list whose span starts so many bytes before the largest number, 2^64 - 1
abbrev far : String → ℕ → Kind → ℕ → ℕ → Example
far t start k a e = record { text = t; span = file_span start 0; says = Err (record { kind = k; place = file_span a e }) }

abbrev pub table : List Example
table =
    is "49" (At (year 2049))
    ∷ record { text = "49?"; span = file_span 100 200; says = Ok (date (At (year 2049)) true false) }
    ∷ record { text = "49~"; span = file_span 100 200; says = Ok (date (At (year 2049)) false true) }
    ∷ record { text = "49 % "; span = file_span 100 200; says = Ok (date (At (year 2049)) true true) }
    ∷ record { text = "2000/ ?"; span = file_span 100 200; says = Ok (date (After (year 2000)) true false) }
    ∷ is "2000/2001" (Between (year 2000) (year 2001))
    ∷ is "2001/2000" (Between (year 2001) (year 2000))
    ∷ is "2000/.." (After (year 2000))
    ∷ is "2000/" (After (year 2000))
    ∷ is "../2000" (Before (year 2000))
    ∷ is " /2000" (Before (year 2000))
    ∷ is "19XX/2005" (Between (year 1900) (year 1999))
    ∷ is "2000-02-XX" (Between (datetime (pos 2000) (stored 1) (day 0) None) (datetime (pos 2000) (stored 1) (day 30) None))
    ∷ no "../.." UndefinedRange 100 200
    ∷ no "/" UndefinedRange 100 200
    ∷ no "" InvalidFormat 100 100
    ∷ no "?" InvalidFormat 100 100
    ∷ no ".." InvalidFormat 100 100
    ∷ no ".,/2000" InvalidFormat 100 100
    ∷ no ".../2000" InvalidFormat 100 100
    ∷ no "49??" InvalidFormat 102 102
    ∷ no "2000-02-30" DayOutOfRange 100 110
    ∷ no "2000-02-30/Q" DayOutOfRange 100 110
    ∷ no "../2000-02-30" DayOutOfRange 103 113
    ∷ no "2000-01-01/2000-02-30" DayOutOfRange 111 121
    ∷ no "2000/Q" InvalidFormat 105 105
    ∷ no "2000/.. ?" InvalidFormat 105 105
    ∷ no "2000/ .." InvalidFormat 105 106
    ∷ no "2000/1/2" InvalidFormat 105 106
    ∷ no "2000/X" InvalidFormat 104 104
    ∷ no "1XXX" WrongNumberOfDigits 100 101
    ∷ no "12345X" RustPanics 0 0
    ∷ far "Q" 0xFFFFFFFFFFFFFFFF InvalidFormat 0xFFFFFFFFFFFFFFFF 0xFFFFFFFFFFFFFFFF
    ∷ far "123" 0xFFFFFFFFFFFFFFFD InvalidFormat 0xFFFFFFFFFFFFFFFD 0xFFFFFFFFFFFFFFFF
    ∷ is "2000/12" (Between (year 2000) (year 2012))
    ∷ far "2000/1" 0xFFFFFFFFFFFFFFFA InvalidFormat 0xFFFFFFFFFFFFFFFF 0xFFFFFFFFFFFFFFFF
    ∷ far "2000/1" 0xFFFFFFFFFFFFFFFB RustPanics 0 0
    ∷ []

pub examples : map (λ (e : Example). parse_text e.span (ascii e.text)) table ≡ map (λ (e : Example). e.says) table
unfolding pick digit_of within is_whitespace is_ascii_digit is_numeric signed len_of is_cont is_surrogate decode2 decode3 decode4 decode first decode_at in_class len_in match_len walk eat_while eat_if eaten eat_at stands_at done_at part refusal saturating_add offset offset_second admits run_value run_of run_at parse_unsigned_int or_kept behind_sign with_sign scanned_at next_run signed_at signed_run int_of parse_int whole_value digits_from parse step_by step_over trim_step trim_from trim_end multiple leap_year february month_lengths month_length stored_part refuse_number part_at month_at day_at hyphen_or hyphen_from hyphen_at on_part on_separator or_end windowed windowed_int short_year long_of long_year short_or year_at on_year with_time time_or behind_day behind_month behind_year point x.hyphen_run x.hyphen_from x.get_hyphen x.on_hyphen x.on_value x.years x.months x.days x.second_run x.second_at x.behind_months x.end_of_days x.day_run x.behind_month x.month_run x.month x.months_run x.behind_year x.year_run x.digit_run x.range_from x.range_dates trimmed last_byte is_uncertain is_approximate unmarked first_of is_blank is_dots is_open moved first_half second_half on_half both_halves halves x_range value marked trimmed_date parse_text
examples = refl
