-- The offset rule through the whole text of a date field: each answer is written out in numbers. Assumes nothing.
use Prim.Native.Nat.{ℕ}
use Prim.Native.String.{String}
use mathlib.Core.Path.{◌≡◌, refl}
use mathlib.Core.List.{List, [], ◌∷◌, map}
use Rattle.chars.specs.Ascii.{ascii}
use Rattle.chars.specs.Signs.{signed}
use Rattle.dates.specs.declared.Date.{Date}
use Rattle.refusals.specs.declared.Refusal.{Refusal}
use Rattle.std.specs.Prelude.{Result, Ok, Err}
use Rattle.refusals.specs.Refusal.{number, file_span}
use Rattle.datefield.specs.Value.{parse_text}
use Rattle.chars.specs.Ascii as chars_ascii
use Rattle.chars.specs.Classes as chars_classes
use Rattle.chars.specs.Pick as chars_pick
use Rattle.chars.specs.Utf8 as chars_utf8
use Rattle.scanner.specs.Class as scanner_class
use Rattle.scanner.specs.Scan as scanner_scan
use Rattle.refusals.specs.Offset as refusals_offset
use Rattle.refusals.specs.Refusal as refusals_refusal
use Rattle.numbers.specs.Number as numbers_number
use Rattle.numbers.specs.Parse as numbers_parse
use Rattle.numbers.specs.Trim as numbers_trim
use Rattle.points.specs.Point as points_point
use Rattle.points.specs.Step as points_step
use Rattle.xranges.specs.Range as xranges_range
use Rattle.datefield.specs.Text as datefield_text
use Rattle.datefield.specs.Value as datefield_value

-- what is answered in numbers: 0, or the refusal's own, its start and its end
abbrev pub shown : Result Date Refusal → List ℕ
shown (Ok d) = 0 ∷ []
shown (Err e) = number e.kind ∷ e.place.0 ∷ e.place.1 ∷ []

-- a text in upper case, with its span in the file, and what is answered
pub record Row : Type 0 where
  pub text : String
  pub start : ℕ
  pub end : ℕ
  pub says : List ℕ

-- at 0, at 100, and at the last few starts below 2^64, whose last is 18446744073709551615: a whole text, a first half and an X range
-- saturate, a second half panics where the sum with the slash is too large, and only if it is refused
abbrev pub rows : List Row
rows =
    record { text = "123"; start = 0; end = 3; says = 7 ∷ 0 ∷ 3 ∷ [] }
    ∷ record { text = "123"; start = 100; end = 103; says = 7 ∷ 100 ∷ 103 ∷ [] }
    ∷ record { text = "123"; start = 18446744073709551611; end = 0; says = 7 ∷ 18446744073709551611 ∷ 18446744073709551614 ∷ [] }
    ∷ record { text = "123"; start = 18446744073709551614; end = 0; says = 7 ∷ 18446744073709551614 ∷ 18446744073709551615 ∷ [] }
    ∷ record { text = "123"; start = 18446744073709551615; end = 0; says = 7 ∷ 18446744073709551615 ∷ 18446744073709551615 ∷ [] }
    ∷ record { text = "Q/2000"; start = 100; end = 106; says = 7 ∷ 100 ∷ 100 ∷ [] }
    ∷ record { text = "Q/2000"; start = 18446744073709551615; end = 0; says = 7 ∷ 18446744073709551615 ∷ 18446744073709551615 ∷ [] }
    ∷ record { text = "2000/Q"; start = 100; end = 106; says = 7 ∷ 105 ∷ 105 ∷ [] }
    ∷ record { text = "2000/123"; start = 100; end = 108; says = 7 ∷ 105 ∷ 108 ∷ [] }
    ∷ record { text = "2000/123"; start = 18446744073709551608; end = 0; says = 7 ∷ 18446744073709551613 ∷ 18446744073709551615 ∷ [] }
    ∷ record { text = "2000/Q"; start = 18446744073709551610; end = 0; says = 7 ∷ 18446744073709551615 ∷ 18446744073709551615 ∷ [] }
    ∷ record { text = "2000/Q"; start = 18446744073709551611; end = 0; says = 9 ∷ 0 ∷ 0 ∷ [] }
    ∷ record { text = "2000/Q"; start = 18446744073709551614; end = 0; says = 9 ∷ 0 ∷ 0 ∷ [] }
    ∷ record { text = "2000/Q"; start = 18446744073709551615; end = 0; says = 9 ∷ 0 ∷ 0 ∷ [] }
    ∷ record { text = "/Q"; start = 18446744073709551614; end = 0; says = 7 ∷ 18446744073709551615 ∷ 18446744073709551615 ∷ [] }
    ∷ record { text = "2000/2001"; start = 18446744073709551615; end = 0; says = 0 ∷ [] }
    ∷ record { text = "Q/Q"; start = 18446744073709551615; end = 0; says = 7 ∷ 18446744073709551615 ∷ 18446744073709551615 ∷ [] }
    ∷ record { text = "../.."; start = 100; end = 105; says = 1 ∷ 100 ∷ 105 ∷ [] }
    ∷ record { text = "1XXX"; start = 100; end = 104; says = 6 ∷ 100 ∷ 101 ∷ [] }
    ∷ record { text = "1XXX"; start = 18446744073709551615; end = 0; says = 6 ∷ 18446744073709551615 ∷ 18446744073709551615 ∷ [] }
    ∷ []

pub places : map (λ (r : Row). shown (parse_text (file_span r.start r.end) (ascii r.text))) rows ≡ map (λ (r : Row). r.says) rows
unfolding chars_ascii.digit_of chars_classes.within chars_classes.is_whitespace chars_classes.is_ascii_digit chars_classes.is_numeric chars_pick.pick chars_utf8.len_of chars_utf8.decode chars_utf8.first chars_utf8.decode_at scanner_class.in_class scanner_scan.len_in scanner_scan.match_len scanner_scan.walk scanner_scan.eat_while scanner_scan.eat_if scanner_scan.done_at scanner_scan.part scanner_scan.run_at scanner_scan.next_run refusals_offset.saturating_add refusals_offset.offset refusals_offset.offset_second refusals_refusal.refusal numbers_number.admits numbers_number.run_value numbers_number.run_of numbers_number.run_at numbers_number.parse_unsigned_int numbers_number.or_kept numbers_number.behind_sign signed numbers_number.with_sign numbers_number.signed_at numbers_number.signed_run numbers_number.int_of numbers_number.parse_int numbers_parse.whole_value numbers_parse.digits_from numbers_parse.parse numbers_trim.step_by numbers_trim.step_over numbers_trim.trim_step numbers_trim.trim_from numbers_trim.trim_end points_point.windowed_int points_point.short_year points_point.long_of points_point.long_year points_point.short_or points_point.year_at points_point.on_year points_point.behind_year points_point.point points_step.or_end points_step.refuse_number xranges_range.digit_run xranges_range.year_run xranges_range.range_from xranges_range.range_dates datefield_text.trimmed datefield_text.last_byte datefield_text.is_uncertain datefield_text.is_approximate datefield_text.unmarked datefield_text.first_of datefield_text.is_blank datefield_text.is_dots datefield_text.is_open datefield_value.moved datefield_value.first_half datefield_value.second_half datefield_value.on_half datefield_value.both_halves datefield_value.halves datefield_value.x_range datefield_value.value datefield_value.marked datefield_value.trimmed_date datefield_value.parse_text
places = refl
