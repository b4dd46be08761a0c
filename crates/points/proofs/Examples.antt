-- Worked examples with their places, as one theorem over one list. Computed.
-- Assumes nothing.
use mathlib.Core.Path.{◌≡◌, refl}
use mathlib.Core.Bool.{true, false}
use mathlib.Core.List.{List, [], ◌∷◌, ◌++◌, map}
use Prim.Native.Nat.{ℕ}
use Prim.Native.String.{String}
use lib.IntN.{ℤ, pos, negsuc}
use Rattle.chars.specs.Pick.{pick}
use Rattle.chars.specs.Classes.{within, is_whitespace, is_ascii_digit, is_numeric}
use Rattle.chars.specs.Utf8.{len_of, is_cont, is_surrogate, decode2, decode3, decode4, decode, first, decode_at}
use Rattle.scanner.specs.Class.{in_class}
use Rattle.scanner.specs.Scan.{len_in, match_len, walk, eat_while, eat_if, eaten, eat_at, stands_at, done_at, part, run_at as scanned_at, next_run}
use Rattle.refusals.specs.Offset.{text_refusal}
use Rattle.refusals.specs.declared.Kind.{Kind}
use Rattle.refusals.specs.declared.Kind.TheVariants.{InvalidFormat, MonthOutOfRange, DayOutOfRange, InvalidNumber, RustPanics}
use Rattle.numbers.specs.Parse.{whole_value, digits_from}
use Rattle.numbers.specs.Number.{admits, run_value, run_of, run_at, parse_unsigned_int, or_kept, behind_sign, with_sign, signed_at, signed_run, int_of, parse_int}
use Rattle.chars.specs.Signs.{signed}
use Rattle.dates.specs.Calendar.{multiple, leap_year, february, month_lengths, month_length}
use Rattle.dates.specs.Value.{month, day, datetime}
use Rattle.dates.specs.declared.TimeOffset.TheVariants.{Utc, Offset}
use Rattle.dates.specs.declared.Datetime.{Datetime}
use Rattle.dates.specs.declared.Day.{Day}
use Rattle.dates.specs.declared.Month.{Month}
use Rattle.dates.specs.declared.TimeOffset.{TimeOffset}
use Rattle.refusals.specs.declared.TextRefusal.{TextRefusal}
use Rattle.std.specs.Prelude.{Option, Some, None, Result, Ok, Err}
use Rattle.points.specs.Step.{refuse_number, stored_part, part_at, month_at, day_at, hour_at, sixty_at, hyphen_or, hyphen_from, hyphen_at, colon_or, colon_from, colon_at, on_part, on_separator, or_end}
use Rattle.dates.specs.Time.{time}
use Rattle.points.specs.Time.{shift_at, offset_by, offset_from, offset_at, with_offset, behind_second, behind_minute, behind_hour, time_at}
use Rattle.points.specs.Point.{windowed, windowed_int, short_year, long_of, long_year, short_or, year_at, on_year, with_time, time_or, behind_day, behind_month, behind_year, point}
use Rattle.chars.specs.Ascii.{ascii, digit_of}

-- a text, and what reading it says
pub record Example : Type 0 where
  pub text : List ℕ
  pub says : Result Datetime TextRefusal

-- a date with no time
abbrev is : String → ℤ → Option Month → Option Day → Example
is t y m d = record { text = ascii t; says = Ok (datetime y m d None) }

-- a time on the first of January 2000
abbrev timed : String → ℕ → ℕ → ℕ → Option TimeOffset → Example
timed t h m s o = record { text = ascii t; says = Ok (datetime (pos 2000) (month 0) (day 0) (Some (time h m s o))) }

-- a refusal at a place
abbrev no : List ℕ → Kind → ℕ → ℕ → Example
no t k a e = record { text = t; says = Err (text_refusal k a e) }

-- the table; texts with é and ½ have these as their bytes
abbrev pub table : List Example
table =
    is "49" (pos 2049) None None
    ∷ is "50" (pos 1950) None None
    ∷ is "00" (pos 2000) None None
    ∷ is "99" (pos 1999) None None
    ∷ is "+12" (pos 2012) None None
    ∷ is "-12" (pos 1988) None None
    ∷ is "-99" (pos 1901) None None
    ∷ is "0049" (pos 49) None None
    ∷ is "0000" (pos 0) None None
    ∷ is "-0000" (pos 0) None None
    ∷ is "9999" (pos 9999) None None
    ∷ is "-9999" (negsuc 9998) None None
    ∷ is " - 0012 -- 3 " (negsuc 11) (month 2) None
    ∷ is "2000-1-1" (pos 2000) (month 0) (day 0)
    ∷ is "2000-12-31" (pos 2000) (month 11) (day 30)
    ∷ is "2000-02-29" (pos 2000) (month 1) (day 28)
    ∷ is "-0004-02-29" (negsuc 3) (month 1) (day 28)
    ∷ no (ascii "1900-02-29") DayOutOfRange 0 10
    ∷ no (ascii "2000-04-31") DayOutOfRange 0 10
    ∷ no (ascii "2000-02- 30") DayOutOfRange 0 11
    ∷ no (ascii "2001-02-29Tq") DayOutOfRange 0 10
    ∷ no (ascii "2000-01-32") DayOutOfRange 8 10
    ∷ no (ascii "2000-01-00") DayOutOfRange 8 10
    ∷ no (ascii "2000-  13") MonthOutOfRange 5 9
    ∷ no (ascii "2000-00") MonthOutOfRange 5 7
    ∷ no (ascii "") InvalidFormat 0 0
    ∷ no (ascii "5") InvalidFormat 0 1
    ∷ no (ascii " 123") InvalidFormat 0 4
    ∷ no (ascii "-123") InvalidFormat 0 4
    ∷ no (ascii "12345") InvalidFormat 0 5
    ∷ no (ascii "2000.1") InvalidFormat 4 4
    ∷ no (ascii "2000 01") InvalidFormat 5 5
    ∷ no (ascii "2000-") InvalidFormat 5 5
    ∷ no (ascii "2000-123") InvalidFormat 5 8
    ∷ no (ascii "2000- -01") InvalidFormat 5 6
    ∷ no (ascii "2000-01 01") InvalidFormat 8 8
    ∷ no (ascii "2000-01-") InvalidFormat 8 8
    ∷ no (ascii "2000-01-01q") InvalidFormat 0 10
    ∷ no (ascii "2000-01-01 t10") InvalidFormat 0 11
    ∷ timed "2000-01-01T1" 1 0 0 None
    ∷ timed "2000-01-01T10" 10 0 0 None
    ∷ timed "2000-01-01T10:20" 10 20 0 None
    ∷ timed "2000-01-01 T 9: 5" 9 5 0 None
    ∷ timed "2000-01-01T10:20:30" 10 20 30 None
    ∷ timed "2000-01-01T10:20:30Zy" 10 20 30 (Some Utc)
    ∷ timed "2000-01-01T10:20:30-02" 10 20 30 (Some (Offset false 2 0))
    ∷ timed "2000-01-01T10:20:30 +02:30 any" 10 20 30 (Some (Offset true 2 30))
    ∷ timed "2000-01-01T0:0:0-0:0" 0 0 0 (Some (Offset false 0 0))
    ∷ timed "2000-01-01T23:59:59+23:59" 23 59 59 (Some (Offset true 23 59))
    ∷ no (ascii "2000-01-01T24") InvalidNumber 11 13
    ∷ no (ascii "2000-01-01T10:60") InvalidNumber 14 16
    ∷ no (ascii "2000-01-01T10:20:60") InvalidNumber 17 19
    ∷ no (ascii "2000-01-01T10:20:30+24") InvalidNumber 20 22
    ∷ no (ascii "2000-01-01T10:20:30-02:60") InvalidNumber 23 25
    ∷ no (ascii "2000-01-01T") InvalidFormat 11 11
    ∷ no (ascii "2000-01-01T100") InvalidFormat 11 14
    ∷ no (ascii "2000-01-01T10Z") InvalidFormat 13 13
    ∷ no (ascii "2000-01-01T10 20") InvalidFormat 14 14
    ∷ no (ascii "2000-01-01T10:20Z") InvalidFormat 16 16
    ∷ no (ascii "2000-01-01T10:20:30z") InvalidFormat 19 20
    ∷ no (ascii "2000-01-01T10:20:30+") InvalidFormat 20 20
    ∷ no (ascii "2000-01-01T10:20:30+02 30") InvalidFormat 23 23
    ∷ no (ascii "2000-01-01T10:20:30+02:003") InvalidFormat 23 26
    ∷ no (ascii "2000-01-01T10:20:30" ++ (0xC3 ∷ 0xA9 ∷ [])) InvalidFormat 19 21
    ∷ no (0xC2 ∷ 0xBD ∷ []) RustPanics 0 0
    ∷ no (ascii "20" ++ (0xC2 ∷ 0xBD ∷ [])) RustPanics 0 0
    ∷ no (ascii "2000-" ++ (0xC2 ∷ 0xBD ∷ [])) RustPanics 0 0
    ∷ no (ascii "2000-01-" ++ (0xC2 ∷ 0xBD ∷ [])) RustPanics 0 0
    ∷ no (ascii "2000-01-01T" ++ (0xC2 ∷ 0xBD ∷ [])) RustPanics 0 0
    ∷ []

pub examples : map (λ (e : Example). point e.text) table ≡ map (λ (e : Example). e.says) table
unfolding pick within is_whitespace is_ascii_digit is_numeric len_of is_cont is_surrogate decode2 decode3 decode4 decode first decode_at in_class len_in match_len walk eat_while eat_if eaten eat_at stands_at done_at part admits digit_of whole_value digits_from run_value run_of run_at parse_unsigned_int or_kept behind_sign signed with_sign scanned_at next_run signed_at signed_run int_of parse_int multiple leap_year february month_lengths month_length stored_part refuse_number part_at month_at day_at hour_at sixty_at hyphen_or hyphen_from hyphen_at colon_or colon_from colon_at on_part on_separator or_end shift_at offset_by offset_from offset_at with_offset behind_second behind_minute behind_hour time_at windowed windowed_int short_year long_of long_year short_or year_at on_year with_time time_or behind_day behind_month behind_year point
examples = refl
