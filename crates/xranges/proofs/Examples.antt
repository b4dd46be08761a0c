-- X ranges as the ported code reads and refuses them, with their places.
-- Assumes nothing.
use mathlib.Core.Path.{◌≡◌, refl}
use mathlib.Core.List.{List, [], ◌∷◌, ◌++◌, map}
use Prim.Native.Nat.{ℕ}
use lib.IntN.{pos}
use Rattle.chars.specs.Pick.{pick}
use Rattle.chars.specs.Classes.{within, is_whitespace, is_ascii_digit}
use Rattle.chars.specs.Utf8.{len_of, is_cont, decode2, decode, first, decode_at}
use Rattle.scanner.specs.Class.{in_class}
use Rattle.scanner.specs.Scan.{len_in, match_len, walk, eat_while, done_at, part}
use Rattle.refusals.specs.declared.Kind.TheVariants.{MonthOutOfRange, WrongNumberOfDigits, InvalidFormat, RustPanics}
use Rattle.dates.specs.declared.Datetime.{Datetime}
use Rattle.refusals.specs.declared.TextRefusal.{TextRefusal}
use Rattle.std.specs.Prelude.{None, Result, Ok, Err}
use Rattle.dates.specs.Value.{datetime, month as stored, day}
use Rattle.chars.specs.Ascii.{ascii, digit_of}
use Rattle.numbers.specs.Parse.{whole_value, digits_from, parse}
use Rattle.refusals.specs.Offset.{text_refusal as refused}
use Rattle.xranges.specs.Range.{hyphen_run, hyphen_from, get_hyphen, on_hyphen, on_value, years, months, days, second_run, second_at, behind_months, end_of_days, day_run, behind_month, month_run, month, months_run, behind_year, year_run, digit_run, range_from, range_dates}

-- a text, and what it is read as
pub record Example : Type 0 where
  pub text : List ℕ
  pub says : Result (Datetime × Datetime) TextRefusal

-- the character ½, which is numeric and no ASCII digit
abbrev pub half : List ℕ
half = 0xC2 ∷ 0xBD ∷ []

abbrev pub table : List Example
table =
    record { text = ascii "19XX/2005"; says = Ok (datetime (pos 1900) None None None, datetime (pos 1999) None None None) }
    ∷ record { text = ascii " 199Xq"; says = Ok (datetime (pos 1990) None None None, datetime (pos 1999) None None None) }
    ∷ record { text = ascii "2000-XX"; says = Ok (datetime (pos 2000) (stored 0) None None, datetime (pos 2000) (stored 11) None None) }
    ∷ record { text = ascii "2000-XX-XX/2001"; says = Ok (datetime (pos 2000) (stored 0) None None, datetime (pos 2000) (stored 11) None None) }
    ∷ record { text = ascii "2000-02-XX"; says = Ok (datetime (pos 2000) (stored 1) (day 0) None, datetime (pos 2000) (stored 1) (day 30) None) }
    ∷ record { text = ascii "000X"; says = Ok (datetime (pos 0) None None None, datetime (pos 9) None None None) }
    ∷ record { text = ascii "99XX"; says = Ok (datetime (pos 9900) None None None, datetime (pos 9999) None None None) }
    ∷ record { text = ascii "9999-XX -- XX"; says = Ok (datetime (pos 9999) (stored 0) None None, datetime (pos 9999) (stored 11) None None) }
    ∷ record { text = ascii " 2000 -- 01 - XX "; says = Ok (datetime (pos 2000) (stored 0) (day 0) None, datetime (pos 2000) (stored 0) (day 30) None) }
    ∷ record { text = ascii "2000-12-XX"; says = Ok (datetime (pos 2000) (stored 11) (day 0) None, datetime (pos 2000) (stored 11) (day 30) None) }
    ∷ record { text = half ++ ascii "X"; says = Err (refused WrongNumberOfDigits 0 0) }
    ∷ record { text = ascii "1" ++ (half ++ ascii "XX"); says = Err (refused WrongNumberOfDigits 0 1) }
    ∷ record { text = ascii "2000-" ++ (half ++ ascii "-XX"); says = Err (refused WrongNumberOfDigits 5 5) }
    ∷ record { text = ascii "-19XX"; says = Err (refused WrongNumberOfDigits 0 0) }
    ∷ record { text = ascii "1XXX"; says = Err (refused WrongNumberOfDigits 0 1) }
    ∷ record { text = ascii "19XXX"; says = Err (refused WrongNumberOfDigits 0 5) }
    ∷ record { text = ascii "2000X"; says = Err (refused WrongNumberOfDigits 0 5) }
    ∷ record { text = ascii "XX"; says = Err (refused WrongNumberOfDigits 0 0) }
    ∷ record { text = ascii "19X"; says = Err (refused WrongNumberOfDigits 0 3) }
    ∷ record { text = ascii "19xx"; says = Err (refused WrongNumberOfDigits 0 2) }
    ∷ record { text = ascii "199XX"; says = Err (refused WrongNumberOfDigits 0 5) }
    ∷ record { text = ascii "2000 X"; says = Err (refused InvalidFormat 5 5) }
    ∷ record { text = ascii "12345X"; says = Err (refused RustPanics 0 0) }
    ∷ record { text = ascii "2000-XXX"; says = Err (refused WrongNumberOfDigits 5 8) }
    ∷ record { text = ascii "2000-012-XX"; says = Err (refused WrongNumberOfDigits 5 8) }
    ∷ record { text = ascii "2000-X"; says = Err (refused WrongNumberOfDigits 5 6) }
    ∷ record { text = ascii "2000- X"; says = Err (refused WrongNumberOfDigits 6 7) }
    ∷ record { text = ascii "2000- 1-XX"; says = Err (refused WrongNumberOfDigits 6 7) }
    ∷ record { text = ascii "2000- 13-XX"; says = Err (refused MonthOutOfRange 6 8) }
    ∷ record { text = ascii "2000-00-XX"; says = Err (refused RustPanics 0 0) }
    ∷ record { text = ascii "2000-XX/2001"; says = Err (refused InvalidFormat 7 7) }
    ∷ record { text = ascii "2000-XX q"; says = Err (refused InvalidFormat 8 8) }
    ∷ record { text = ascii "2000-XX- q"; says = Err (refused InvalidFormat 9 9) }
    ∷ record { text = ascii "2000-XX-X"; says = Err (refused InvalidFormat 9 9) }
    ∷ record { text = ascii "2000-XX-XXX"; says = Err (refused InvalidFormat 11 11) }
    ∷ record { text = ascii "2000-02X"; says = Err (refused InvalidFormat 7 7) }
    ∷ record { text = ascii "2000-02-X1"; says = Err (refused InvalidFormat 9 9) }
    ∷ record { text = ascii "2000-02-XXX"; says = Err (refused InvalidFormat 11 11) }
    ∷ record { text = ascii "2000-02-XX q"; says = Err (refused InvalidFormat 11 11) }
    ∷ []

pub examples : map (λ (e : Example). range_dates e.text) table ≡ map (λ (e : Example). e.says) table
unfolding pick within is_whitespace is_ascii_digit len_of is_cont decode2 decode first decode_at in_class len_in match_len walk eat_while done_at part digit_of whole_value digits_from parse hyphen_run hyphen_from get_hyphen on_hyphen on_value years months days second_run second_at behind_months end_of_days day_run behind_month month_run month months_run behind_year year_run digit_run range_from range_dates
examples = refl
