-- The worked examples: what six fields say, in one list. A text is one Normal chunk whose span starts at 0.
-- Assumes nothing.
use Prim.Native.Nat.{ℕ}
use Prim.Native.String.{String}
use mathlib.Core.Path.{◌≡◌, refl}
use mathlib.Core.Bool.{true, false}
use mathlib.Core.List.{List, [], ◌∷◌, ◌++◌, map}
use lib.IntN.{ℤ, pos}
use lib.ListN.{length}
use Rattle.chars.specs.Ascii.{ascii}
use Rattle.refusals.specs.declared.Kind.{Kind}
use Rattle.refusals.specs.declared.Kind.TheVariants.{InvalidFormat, RustPanics, BadUtf8, UnsupportedChar}
use Rattle.dates.specs.declared.Date.{Date}
use Rattle.refusals.specs.declared.Refusal.{Refusal}
use Rattle.std.specs.Prelude.{None, Result, Ok, Err}
use Rattle.dates.specs.declared.Datetime.{Datetime}
use Rattle.dates.specs.declared.DateValue.{DateValue}
use Rattle.dates.specs.declared.DateValue.TheVariants.{At, After, Between}
use Rattle.dates.specs.Value.{datetime, date, month, day}
use Rattle.refusals.specs.Refusal.{file_span}
use Rattle.chunks.specs.Lent.{Lent, Optional, lent, optional, absent, three}
use Rattle.sixfields.specs.Six.{six_fields}
use Rattle.chars.specs.Ascii as chars_ascii
use Rattle.chars.specs.Classes as chars_classes
use Rattle.chars.specs.Pick as chars_pick
use Rattle.chars.specs.Utf8 as chars_utf8
use Rattle.scanner.specs.Class as scanner_class
use Rattle.scanner.specs.Scan as scanner_scan
use Rattle.refusals.specs.Offset as refusals_offset
use Rattle.refusals.specs.Refusal as refusals_refusal
use Rattle.chunks.specs.Characters as chunks_characters
use Rattle.chunks.specs.Check as chunks_check
use Rattle.chunks.specs.Chunks as chunks_chunks
use Rattle.chunks.specs.Format as chunks_format
use Rattle.numbers.specs.Number as numbers_number
use Rattle.numbers.specs.Parse as strs_parse
use Rattle.numbers.specs.Trim as strs_trim
use Rattle.fields.specs.Day as fields_day
use Rattle.fields.specs.Month as fields_month
use Rattle.fields.specs.Names as fields_names
use Rattle.fields.specs.Year as fields_year
use Rattle.datefield.specs.Text as datefield_text
use Rattle.reading_laws.specs.Field as reader_field
use Rattle.reading_laws.specs.Fields as reader_fields
use Rattle.sixfields.specs.Six as six

-- the table of one Normal chunk, of one empty Math chunk
abbrev table : List ℕ → List ℕ
table b = 0 ∷ length b ∷ 0 ∷ length b ∷ []

abbrev no_math : List ℕ
no_math = 2 ∷ 0 ∷ 0 ∷ 0 ∷ []

-- a list of one Normal chunk, as one that must be there and as one that may be absent
abbrev one : List ℕ → Lent
one b = lent b (table b)

abbrev given : List ℕ → Optional
given b = optional true b (table b)

-- a byte that no character is
abbrev bad : List ℕ
bad = 0xFF ∷ []

-- a year without an end year list, and with a bad end month
abbrev alone : String → Result Date Refusal
alone y = six_fields (three (one (ascii y)) absent absent) false (three (lent [] []) (given bad) absent)

-- a year, an end year list, and an end month
abbrev listed : String → List ℕ → List ℕ → List ℕ → Result Date Refusal
listed y end end_table m = six_fields (three (one (ascii y)) absent absent) true (three (lent end end_table) (given m) absent)

abbrev upto : String → List ℕ → List ℕ → Result Date Refusal
upto y end m = listed y end (table end) m

-- a year and a month, an end year, an end month and an end day
abbrev whole : String → String → String → String → String → Result Date Refusal
whole y m ey em ed =
    six_fields
    (three (one (ascii y)) (given (ascii m)) absent)
    true
    (three (one (ascii ey)) (given (ascii em)) (given (ascii ed)))

-- a year alone, as a Datetime and as a Date
abbrev year : ℤ → Datetime
year y = datetime y None None None

abbrev says : DateValue → Result Date Refusal
says v = Ok (date v false false)

-- a refusal from a place to another
abbrev refuses : Kind → ℕ → ℕ → Result Date Refusal
refuses k start end = Err (record { kind = k; place = file_span start end })

-- what is read, and what it says
pub record Example : Type 0 where
  pub read : Result Date Refusal
  pub is : Result Date Refusal

pub examples : List Example
examples =
    -- the start is read before the end is looked at
    record { read = upto "x" bad bad; is = refuses InvalidFormat 0 0 }
    ∷ record { read = whole "2000" "0" "x" "1" "1"; is = refuses RustPanics 0 0 }
    -- without an end year list no end month is looked at, nor behind a blank one
    ∷ record { read = alone "2000"; is = says (At (year (pos 2000))) }
    ∷ record { read = upto "2000" [] bad; is = says (After (year (pos 2000))) }
    ∷ record { read = upto "2000" (ascii " ") bad; is = says (After (year (pos 2000))) }
    ∷ record { read = upto "2000" (chars_utf8.encode 0x2009) bad; is = says (After (year (pos 2000))) }
    ∷ record { read = listed "2000" [] [] bad; is = says (After (year (pos 2000))) }
    -- an empty Math chunk is two dollar signs, and these are no year
    ∷ record { read = listed "2000" [] no_math (ascii "1"); is = refuses InvalidFormat 0 0 }
    -- the end year list is checked in full, and each list of the end before one is read
    ∷ record { read = upto "2000" (ascii " " ++ chars_utf8.encode 0x20AC) (ascii "1"); is = refuses UnsupportedChar 1 4 }
    ∷ record { read = upto "2000" (ascii "x") bad; is = refuses BadUtf8 0 1 }
    ∷ record { read = upto "2000" (ascii "x") (ascii "1"); is = refuses InvalidFormat 0 0 }
    ∷ record { read = whole "2000" "2" "2001" "mar" "4"; is = says (Between (datetime (pos 2000) (month 1) None None) (datetime (pos 2001) (month 2) (day 3) None)) }
    -- the start may be after the end
    ∷ record { read = upto "2000" (ascii "1999") (ascii "12"); is = says (Between (year (pos 2000)) (datetime (pos 1999) (month 11) None None)) }
    ∷ []

pub examples-hold : map (λ (e : Example). e.read) examples ≡ map (λ (e : Example). e.is) examples
unfolding examples chars_ascii.digit_of chars_classes.within chars_classes.is_admitted chars_classes.is_whitespace chars_classes.is_ascii_digit chars_classes.is_numeric chars_classes.is_ascii_alphabetic chars_classes.is_alphabetic chars_classes.is_alphanumeric chars_pick.pick chars_utf8.len_of chars_utf8.is_cont chars_utf8.is_surrogate chars_utf8.decode2 chars_utf8.decode3 chars_utf8.decode4 chars_utf8.decode chars_utf8.first chars_utf8.decode_at chars_utf8.len_d chars_utf8.encode chars_utf8.encode_all scanner_class.in_class scanner_scan.len_in scanner_scan.match_len scanner_scan.walk scanner_scan.eat_while scanner_scan.eat_if scanner_scan.begins scanner_scan.eat_text scanner_scan.eaten scanner_scan.eat_at scanner_scan.stands_at scanner_scan.done_at scanner_scan.part refusals_offset.saturating_add refusals_offset.offset refusals_offset.offset_second refusals_offset.unshifted refusals_refusal.refusal chunks_characters.and_then chunks_characters.up_to chunks_characters.characters chunks_characters.codes_of chunks_characters.codes chunks_check.fault_in chunks_check.or_else chunks_check.fault_of chunks_check.checked chunks_chunks.chunks_of chunks_chunks.kinds_known chunks_chunks.lengths chunks_chunks.fits chunks_chunks.is_short chunks_chunks.last_end chunks_chunks.span_of chunks_format.is_break chunks_format.one_out chunks_format.normal chunks_format.last_white chunks_format.chunk_out chunks_format.chunk_flag chunks_format.chunks_out chunks_format.formatted numbers_number.admits numbers_number.run_value numbers_number.run_of numbers_number.run_at numbers_number.parse_unsigned_int strs_parse.whole_value strs_parse.digits_from strs_parse.parse strs_trim.step_by strs_trim.step_over strs_trim.trim_step strs_trim.trim_from strs_trim.trim_end strs_trim.trim fields_day.is_day fields_day.day_of fields_day.day_digits fields_day.day_behind fields_day.day_at fields_day.day_from fields_day.day_in_month_field fields_day.day_given fields_day.day_field fields_month.named fields_month.month_of fields_month.month_field fields_names.lower fields_names.same_letters fields_names.month_in fields_names.get_month_for_name fields_names.get_month_for_abbr fields_names.or_else fields_names.month_for fields_year.on_past fields_year.era_end fields_year.negative_era fields_year.era_at fields_year.parse_era_marker fields_year.ended fields_year.with_era fields_year.behind_digits fields_year.on_number fields_year.year_digits fields_year.year_from fields_year.behind_sign fields_year.year_at fields_year.get_year datefield_text.is_blank reader_field.on_clean reader_fields.parts_checked reader_fields.fields_checked reader_fields.moved_year reader_fields.year_of reader_fields.on_month reader_fields.inside_day reader_fields.month_text reader_fields.month_alone reader_fields.field_day reader_fields.month_and_day reader_fields.parts_of reader_fields.dated reader_fields.on_year reader_fields.read_fields reader_fields.three_fields six.judged six.blank six.end_year_of six.single six.unmarked six.on_three six.between six.on_end_year six.with_end six.six_fields
examples-hold = refl
