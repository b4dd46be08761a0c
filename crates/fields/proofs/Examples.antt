-- The three fields as the ported code reads and refuses them, with their places.
-- Assumes nothing.
use mathlib.Core.Path.{◌≡◌, refl}
use mathlib.Core.List.{List, [], ◌∷◌, ◌++◌, map}
use Prim.Native.Nat.{ℕ}
use Prim.Native.String.{String}
use lib.IntN.{pos, negsuc}
use Rattle.chars.specs.Pick.{pick}
use Rattle.chars.specs.Classes.{within, is_whitespace, is_ascii_digit, is_numeric, is_ascii_alphabetic, is_alphabetic, is_alphanumeric}
use Rattle.chars.specs.Utf8.{len_of, is_cont, decode2, decode, first, decode_at}
use Rattle.scanner.specs.Class.{in_class}
use Rattle.scanner.specs.Scan.{len_in, match_len, walk, eat_while, eat_if, begins, eat_text, stands_at, done_at, part}
use Rattle.refusals.specs.declared.Kind.TheVariants.{DayOutOfRange, InvalidNumber, MissingNumber, WrongNumberOfDigits, InvalidFormat, YearZeroCE, RustPanics}
use Rattle.refusals.specs.declared.FileSpan.{FileSpan}
use Rattle.refusals.specs.Refusal.{file_span, refusal}
use Rattle.numbers.specs.Number.{admits, run_of, run_at, parse_unsigned_int, run_value}
use Rattle.dates.specs.declared.Day.{Day}
use Rattle.dates.specs.declared.Month.{Month}
use Rattle.refusals.specs.declared.Refusal.{Refusal}
use Rattle.refusals.specs.declared.TextRefusal.{TextRefusal}
use Rattle.std.specs.Prelude.{Option, None, Result, Ok, Err, ℤ}
use Rattle.dates.specs.Value.{month as stored, day}
use Rattle.chars.specs.Ascii.{ascii, digit_of}
use Rattle.numbers.specs.Trim.{step_by, step_over, trim_step, trim_from, trim_end, trim}
use Rattle.numbers.specs.Parse.{whole_value, digits_from, parse}
use Rattle.refusals.specs.Offset.{text_refusal as refused}
use Rattle.fields.specs.Year.{on_past, era_end, negative_era, era_at, parse_era_marker, ended, with_era, behind_digits, on_number, year_digits, year_from, behind_sign, year_at, get_year}
use Rattle.fields.specs.Names.{lower, same_letters, month_in, get_month_for_name, get_month_for_abbr, or_else, month_for}
use Rattle.fields.specs.Month.{named, month_of, month_field}
use Rattle.fields.specs.Day.{is_day, day_of, day_digits, day_behind, day_at, day_from, day_in_month_field, day_given, day_field}

-- a year field, and what it is read as
pub record YearExample : Type 0 where
  pub text : String
  pub says : Result ℤ TextRefusal

abbrev pub years : List YearExample
years =
    record { text = "49"; says = Ok (pos 49) }
    ∷ record { text = "9999"; says = Ok (pos 9999) }
    ∷ record { text = "0049"; says = Ok (pos 49) }
    ∷ record { text = " -5"; says = Ok (negsuc 4) }
    ∷ record { text = "+0 "; says = Ok (pos 0) }
    ∷ record { text = "1000 BC"; says = Ok (negsuc 998) }
    ∷ record { text = "+5"; says = Ok (pos 5) }
    ∷ record { text = "1BCE, q"; says = Ok (pos 0) }
    ∷ record { text = "2 BCE"; says = Ok (negsuc 0) }
    ∷ record { text = "5 CE"; says = Ok (pos 5) }
    ∷ record { text = "5 AD"; says = Ok (pos 5) }
    ∷ record { text = "5 AD "; says = Err (refused InvalidFormat 0 4) }
    ∷ record { text = "5 AD,"; says = Err (refused InvalidFormat 0 4) }
    ∷ record { text = "5 ADx"; says = Err (refused InvalidFormat 2 4) }
    ∷ record { text = "5 BCEx"; says = Err (refused InvalidFormat 2 5) }
    ∷ record { text = "-5 BCx"; says = Err (refused InvalidFormat 3 5) }
    ∷ record { text = "-5 BC"; says = Err (refused InvalidFormat 0 5) }
    ∷ record { text = "-0 AD"; says = Err (refused InvalidFormat 0 5) }
    ∷ record { text = "0 AD"; says = Err (refused YearZeroCE 0 4) }
    ∷ record { text = "0 BC"; says = Err (refused YearZeroCE 0 4) }
    ∷ record { text = "+5 AD"; says = Err (refused InvalidFormat 0 5) }
    ∷ record { text = "5 CE,"; says = Err (refused InvalidFormat 0 4) }
    ∷ record { text = "5 CEx"; says = Err (refused InvalidFormat 2 4) }
    ∷ record { text = "5 BC5"; says = Err (refused InvalidFormat 2 4) }
    ∷ record { text = "5 x"; says = Err (refused InvalidFormat 0 2) }
    ∷ record { text = "5 ad"; says = Err (refused InvalidFormat 0 2) }
    ∷ record { text = "5 BE"; says = Err (refused InvalidFormat 0 2) }
    ∷ record { text = " x"; says = Err (refused InvalidFormat 1 1) }
    ∷ record { text = "- x"; says = Err (refused InvalidFormat 0 2) }
    ∷ record { text = "- 12345"; says = Err (refused WrongNumberOfDigits 0 7) }
    ∷ record { text = "12345"; says = Err (refused WrongNumberOfDigits 0 5) }
    ∷ record { text = ""; says = Err (refused InvalidFormat 0 0) }
    ∷ record { text = "- 5"; says = Err (refused RustPanics 0 0) }
    ∷ record { text = "+ 0 AD"; says = Err (refused RustPanics 0 0) }
    ∷ []

pub year-examples : map (λ (e : YearExample). get_year (ascii e.text)) years ≡ map (λ (e : YearExample). e.says) years
unfolding pick within is_whitespace is_ascii_digit is_numeric is_ascii_alphabetic is_alphabetic is_alphanumeric len_of is_cont decode2 decode first decode_at in_class len_in match_len walk eat_while eat_if begins eat_text stands_at done_at part digit_of whole_value digits_from parse on_past era_end negative_era era_at parse_era_marker ended with_era behind_digits on_number year_digits year_from behind_sign year_at get_year
year-examples = refl

-- a month field, its month, the place behind it, and the day that it holds there
pub record MonthExample : Type 0 where
  pub text : List ℕ
  pub month : Option Month
  pub next : ℕ
  pub holds : Result (Option Day) TextRefusal

abbrev pub months : List MonthExample
months =
    record { text = ascii "1"; month = stored 0; next = 1; holds = Ok None }
    ∷ record { text = ascii " 12"; month = stored 11; next = 3; holds = Ok None }
    ∷ record { text = ascii ""; month = None; next = 0; holds = Ok None }
    ∷ record { text = ascii "13"; month = stored 12; next = 2; holds = Ok None }
    ∷ record { text = ascii "74"; month = stored 73; next = 2; holds = Ok None }
    ∷ record { text = ascii "7 4"; month = stored 6; next = 1; holds = Ok (day 3) }
    ∷ record { text = ascii "4 july"; month = stored 3; next = 1; holds = Ok None }
    ∷ record { text = ascii " jUL "; month = stored 6; next = 4; holds = Ok None }
    ∷ record { text = ascii "SEPT"; month = stored 8; next = 4; holds = Ok None }
    ∷ record { text = ascii "January"; month = stored 0; next = 7; holds = Ok None }
    ∷ record { text = ascii "FEBRUARY"; month = stored 1; next = 8; holds = Ok None }
    ∷ record { text = ascii "march"; month = stored 2; next = 5; holds = Ok None }
    ∷ record { text = ascii "April"; month = stored 3; next = 5; holds = Ok None }
    ∷ record { text = ascii "MAY"; month = stored 4; next = 3; holds = Ok None }
    ∷ record { text = ascii "june"; month = stored 5; next = 4; holds = Ok None }
    ∷ record { text = ascii "July"; month = stored 6; next = 4; holds = Ok None }
    ∷ record { text = ascii "AUGUST"; month = stored 7; next = 6; holds = Ok None }
    ∷ record { text = ascii "september"; month = stored 8; next = 9; holds = Ok None }
    ∷ record { text = ascii "October"; month = stored 9; next = 7; holds = Ok None }
    ∷ record { text = ascii "NOVEMBER"; month = stored 10; next = 8; holds = Ok None }
    ∷ record { text = ascii "december"; month = stored 11; next = 8; holds = Ok None }
    ∷ record { text = ascii "Jan"; month = stored 0; next = 3; holds = Ok None }
    ∷ record { text = ascii "feb"; month = stored 1; next = 3; holds = Ok None }
    ∷ record { text = ascii "MAR"; month = stored 2; next = 3; holds = Ok None }
    ∷ record { text = ascii "Apr"; month = stored 3; next = 3; holds = Ok None }
    ∷ record { text = ascii "JUN"; month = stored 5; next = 3; holds = Ok None }
    ∷ record { text = ascii "Jul"; month = stored 6; next = 3; holds = Ok None }
    ∷ record { text = ascii "aug"; month = stored 7; next = 3; holds = Ok None }
    ∷ record { text = ascii "SEP"; month = stored 8; next = 3; holds = Ok None }
    ∷ record { text = ascii "oct"; month = stored 9; next = 3; holds = Ok None }
    ∷ record { text = ascii "NOV"; month = stored 10; next = 3; holds = Ok None }
    ∷ record { text = ascii "Dec"; month = stored 11; next = 3; holds = Ok None }
    ∷ record { text = ascii "decembe"; month = None; next = 7; holds = Ok None }
    ∷ record { text = ascii "febr"; month = None; next = 4; holds = Ok None }
    ∷ record { text = ascii "july4"; month = stored 6; next = 4; holds = Ok (day 3) }
    ∷ record { text = ascii "jul-4,"; month = stored 6; next = 3; holds = Ok (day 3) }
    ∷ record { text = ascii "jul,4"; month = stored 6; next = 3; holds = Ok None }
    ∷ record { text = ascii "123jul-4"; month = stored 6; next = 6; holds = Ok (day 3) }
    ∷ record { text = ascii "123 jul"; month = None; next = 3; holds = Ok None }
    ∷ record { text = ascii "123 4"; month = None; next = 3; holds = Ok (day 3) }
    ∷ record { text = ascii "jul-"; month = stored 6; next = 3; holds = Err (refused MissingNumber 4 4) }
    ∷ record { text = ascii "jul" ++ (0xC2 ∷ 0xA0 ∷ ascii " 4"); month = stored 6; next = 3; holds = Err (refused MissingNumber 5 5) }
    ∷ record { text = ascii "jul-32"; month = stored 6; next = 3; holds = Err (refused DayOutOfRange 4 6) }
    ∷ record { text = ascii "jul 1"; month = stored 6; next = 3; holds = Ok (day 0) }
    ∷ record { text = ascii "feb --31"; month = stored 1; next = 3; holds = Ok (day 30) }
    ∷ record { text = ascii "jul- 4"; month = stored 6; next = 3; holds = Err (refused MissingNumber 4 4) }
    ∷ record { text = ascii "jul-0"; month = stored 6; next = 3; holds = Err (refused DayOutOfRange 4 5) }
    ∷ record { text = ascii "jul-255"; month = stored 6; next = 3; holds = Err (refused DayOutOfRange 4 7) }
    ∷ record { text = ascii "jul-256"; month = stored 6; next = 3; holds = Err (refused RustPanics 0 0) }
    ∷ record { text = ascii "july 2020"; month = stored 6; next = 4; holds = Err (refused RustPanics 0 0) }
    ∷ []

pub month-examples : map (λ (e : MonthExample). month_field e.text) months ≡ map (λ (e : MonthExample). Ok (e.month, record { 0 = e.next })) months
unfolding pick within is_whitespace is_ascii_digit is_numeric is_ascii_alphabetic len_of is_cont decode2 decode first decode_at in_class len_in match_len walk eat_while part admits run_of run_at parse_unsigned_int digit_of whole_value digits_from run_value lower same_letters month_in get_month_for_name get_month_for_abbr or_else month_for named month_of month_field
month-examples = refl

pub day-examples : map (λ (e : MonthExample). day_in_month_field e.text e.next) months ≡ map (λ (e : MonthExample). e.holds) months
unfolding pick within is_whitespace is_ascii_digit len_of is_cont decode2 decode first decode_at in_class len_in match_len walk eat_while part digit_of whole_value digits_from parse is_day day_of day_digits day_behind day_at day_from day_in_month_field
day-examples = refl

-- the letters from A to Z have a lower case, and no other byte has one
pub lower-examples : map lower (ascii "@AZ[`az") ≡ ascii "@az[`az"
unfolding lower pick
lower-examples = refl

-- month fields that the ported code panics at: zeros, and the character ½
abbrev pub panicking : List (List ℕ)
panicking = ascii "0" ∷ ascii " 00" ∷ (0xC2 ∷ 0xBD ∷ []) ∷ []

pub panic-examples : map month_field panicking ≡ map (λ (t : List ℕ). Err (refused RustPanics 0 0)) panicking
unfolding pick within is_whitespace is_ascii_digit is_numeric len_of is_cont decode2 decode first decode_at in_class len_in match_len walk eat_while part admits run_of run_at parse_unsigned_int digit_of whole_value digits_from run_value month_of month_field
panic-examples = refl

-- a day field with the span of its list, and what it is read as
pub record DayExample : Type 0 where
  pub text : String
  pub span : FileSpan
  pub says : Result Day Refusal

abbrev pub day_fields : List DayExample
day_fields =
    record { text = "1"; span = file_span 5 6; says = Ok (record { 0 = 0 }) }
    ∷ record { text = " 4 "; span = file_span 5 8; says = Ok (record { 0 = 3 }) }
    ∷ record { text = "+0031"; span = file_span 5 10; says = Ok (record { 0 = 30 }) }
    ∷ record { text = "32"; span = file_span 5 7; says = Err (record { kind = DayOutOfRange; place = file_span 5 7 }) }
    ∷ record { text = "0"; span = file_span 5 6; says = Err (record { kind = DayOutOfRange; place = file_span 5 6 }) }
    ∷ record { text = "255"; span = file_span 5 8; says = Err (record { kind = DayOutOfRange; place = file_span 5 8 }) }
    ∷ record { text = "256"; span = file_span 5 8; says = Err (record { kind = InvalidNumber; place = file_span 5 8 }) }
    ∷ record { text = "-0"; span = file_span 5 7; says = Err (record { kind = InvalidNumber; place = file_span 5 7 }) }
    ∷ record { text = "+"; span = file_span 5 6; says = Err (record { kind = InvalidNumber; place = file_span 5 6 }) }
    ∷ record { text = ""; span = file_span 5 9; says = Err (record { kind = InvalidNumber; place = file_span 5 9 }) }
    ∷ record { text = "x"; span = file_span 5 5; says = Err (record { kind = MissingNumber; place = file_span 5 5 }) }
    ∷ record { text = "x"; span = file_span 9 5; says = Err (record { kind = MissingNumber; place = file_span 9 5 }) }
    ∷ []

pub day-field-examples : map (λ (e : DayExample). day_field (ascii e.text) e.span) day_fields ≡ map (λ (e : DayExample). e.says) day_fields
unfolding pick within is_whitespace len_of decode first decode_at in_class len_in match_len walk eat_while part step_by step_over trim_step trim_from trim_end trim digit_of whole_value digits_from parse refusal is_day day_given day_field
day-field-examples = refl
