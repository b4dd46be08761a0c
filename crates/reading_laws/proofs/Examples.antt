-- The worked examples: what the readers say of one text each, in one list. A text is one Normal chunk whose span starts at 0.
-- Assumes nothing.
use Prim.Native.Nat.{ℕ}
use Prim.Native.String.{String}
use mathlib.Core.Path.{◌≡◌, refl}
use mathlib.Core.Bool.{true, false}
use mathlib.Core.List.{List, [], ◌∷◌, ◌++◌, map}
use lib.IntN.{ℤ, pos, negsuc}
use lib.ListN.{length}
use Rattle.chars.specs.Ascii.{ascii}
use Rattle.refusals.specs.declared.Kind.{Kind}
use Rattle.refusals.specs.declared.Kind.TheVariants.{UndefinedRange, DayOutOfRange, InvalidFormat, YearZeroCE, RustPanics, UnsupportedChar}
use Rattle.dates.specs.declared.Date.{Date}
use Rattle.refusals.specs.declared.Refusal.{Refusal}
use Rattle.std.specs.Prelude.{None, Result, Ok, Err}
use Rattle.dates.specs.declared.Datetime.{Datetime}
use Rattle.dates.specs.declared.DateValue.{DateValue}
use Rattle.dates.specs.declared.DateValue.TheVariants.{At, Between}
use Rattle.dates.specs.Value.{datetime, date, month, day}
use Rattle.refusals.specs.Refusal.{file_span}
use Rattle.reading_laws.specs.Field.{parsed}
use Rattle.chunks.specs.Lent.{Lent, lent, optional, absent, three}
use Rattle.reading_laws.specs.Fields.{three_fields}
use Rattle.chars.specs.Ascii as chars_ascii
use Rattle.chars.specs.Classes as chars_classes
use Rattle.chars.specs.Pick as chars_pick
use Rattle.chars.specs.Upper as chars_upper
use Rattle.chars.specs.Utf8 as chars_utf8
use Rattle.scanner.specs.Class as scanner_class
use Rattle.scanner.specs.Scan as scanner_scan
use Rattle.refusals.specs.Offset as refusals_offset
use Rattle.refusals.specs.Refusal as refusals_refusal
use Rattle.chunks.specs.Characters as chunks_characters
use Rattle.chunks.specs.Check as chunks_check
use Rattle.chunks.specs.Chunks as chunks_chunks
use Rattle.chunks.specs.Format as chunks_format
use Rattle.chunks.specs.Upper as chunks_upper
use Rattle.dates.specs.Calendar as dates_calendar
use Rattle.numbers.specs.Number as numbers_number
use Rattle.chars.specs.Signs.{signed}
use Rattle.numbers.specs.Parse as strs_parse
use Rattle.numbers.specs.Trim as strs_trim
use Rattle.points.specs.Point as points_point
use Rattle.points.specs.Step as points_step
use Rattle.points.specs.Time as points_time
use Rattle.xranges.specs.Range as xranges_range
use Rattle.fields.specs.Day as fields_day
use Rattle.fields.specs.Month as fields_month
use Rattle.fields.specs.Names as fields_names
use Rattle.fields.specs.Year as fields_year
use Rattle.datefield.specs.Text as datefield_text
use Rattle.datefield.specs.Value as datefield_value
use Rattle.reading_laws.specs.Field as reader_field
use Rattle.reading_laws.specs.Fields as reader_fields

-- the table of one Normal chunk
abbrev table : List ℕ → List ℕ
table b = 0 ∷ length b ∷ 0 ∷ length b ∷ []

-- a list of one such chunk
abbrev one : List ℕ → Lent
one b = lent b (table b)

-- a date field, a year field, and a month field beside the year 2000
abbrev date_bytes : List ℕ → Result Date Refusal
date_bytes b = parsed b (table b)

abbrev date_field : String → Result Date Refusal
date_field s = date_bytes (ascii s)

abbrev year_field : String → Result Date Refusal
year_field s = three_fields (three (one (ascii s)) absent absent)

abbrev month_bytes : List ℕ → Result Date Refusal
month_bytes b = three_fields (three (one (ascii "2000")) (optional true b (table b)) absent)

abbrev month_field : String → Result Date Refusal
month_field s = month_bytes (ascii s)

-- a year alone, as a Datetime and as a Date
abbrev year : ℤ → Datetime
year y = datetime y None None None

abbrev says : DateValue → Result Date Refusal
says v = Ok (date v false false)

-- a refusal from a place to another
abbrev refuses : Kind → ℕ → ℕ → Result Date Refusal
refuses k start end = Err (record { kind = k; place = file_span start end })

-- what is read, and what it says
pub record Example : Type 0 where
  pub read : Result Date Refusal
  pub is : Result Date Refusal

pub examples : List Example
examples =
    record { read = date_field "49"; is = says (At (year (pos 2049))) }
    ∷ record { read = date_field "50"; is = says (At (year (pos 1950))) }
    ∷ record { read = date_field "0049"; is = says (At (year (pos 49))) }
    ∷ record { read = date_field "-12"; is = says (At (year (pos 1988))) }
    ∷ record { read = date_field "2000-02-29"; is = says (At (datetime (pos 2000) (month 1) (day 28) None)) }
    ∷ record { read = date_field "1900-02-29"; is = refuses DayOutOfRange 0 10 }
    ∷ record { read = date_field "../.."; is = refuses UndefinedRange 0 5 }
    ∷ record { read = date_field "19XX/2005"; is = says (Between (year (pos 1900)) (year (pos 1999))) }
    ∷ record { read = date_field "2000-02-XX"; is = says (Between (datetime (pos 2000) (month 1) (day 0) None) (datetime (pos 2000) (month 1) (day 30) None)) }
    ∷ record { read = year_field "49"; is = says (At (year (pos 49))) }
    ∷ record { read = year_field "1000 BC"; is = says (At (year (negsuc 998))) }
    ∷ record { read = year_field "0 AD"; is = refuses YearZeroCE 0 4 }
    ∷ record { read = year_field "- 5"; is = refuses RustPanics 0 0 }
    ∷ record { read = month_field "13"; is = says (At (datetime (pos 2000) (month 12) None None)) }
    -- a thin space is trimmed, an en dash is no hyphen, U+2070 is not read; a narrow no-break space is white space behind a month
    ∷ record { read = date_bytes (ascii "2000" ++ chars_utf8.encode 0x2009); is = says (At (year (pos 2000))) }
    ∷ record { read = date_bytes (ascii "2000" ++ chars_utf8.encode 0x2013 ++ ascii "01"); is = refuses InvalidFormat 4 4 }
    ∷ record { read = date_bytes (ascii "2000" ++ chars_utf8.encode 0x2070); is = refuses UnsupportedChar 4 7 }
    ∷ record { read = month_bytes (ascii "jul" ++ chars_utf8.encode 0x202F); is = says (At (datetime (pos 2000) (month 6) None None)) }
    ∷ []

pub examples-hold : map (λ (e : Example). e.read) examples ≡ map (λ (e : Example). e.is) examples
unfolding examples chars_ascii.digit_of chars_classes.within chars_classes.is_admitted chars_classes.is_whitespace chars_classes.is_ascii_digit chars_classes.is_numeric chars_classes.is_ascii_alphabetic chars_classes.is_alphabetic chars_classes.is_alphanumeric chars_pick.pick chars_upper.loses32 chars_upper.upper_of chars_upper.codes_of chars_utf8.len_of chars_utf8.is_cont chars_utf8.is_surrogate chars_utf8.decode2 chars_utf8.decode3 chars_utf8.decode4 chars_utf8.decode chars_utf8.first chars_utf8.decode_at chars_utf8.len_d chars_utf8.encode chars_utf8.encode_all scanner_class.in_class scanner_scan.len_in scanner_scan.match_len scanner_scan.walk scanner_scan.eat_while scanner_scan.eat_if scanner_scan.begins scanner_scan.eat_text scanner_scan.eaten scanner_scan.eat_at scanner_scan.stands_at scanner_scan.done_at scanner_scan.part scanner_scan.run_at scanner_scan.next_run refusals_offset.saturating_add refusals_offset.offset refusals_offset.offset_second refusals_offset.unshifted refusals_refusal.refusal chunks_characters.and_then chunks_characters.up_to chunks_characters.characters chunks_characters.codes_of chunks_characters.codes chunks_check.fault_in chunks_check.or_else chunks_check.fault_of chunks_check.checked chunks_chunks.chunks_of chunks_chunks.kinds_known chunks_chunks.lengths chunks_chunks.fits chunks_chunks.is_short chunks_chunks.last_end chunks_chunks.span_of chunks_format.is_break chunks_format.one_out chunks_format.normal chunks_format.last_white chunks_format.chunk_out chunks_format.chunk_flag chunks_format.chunks_out chunks_format.formatted chunks_upper.upper_out chunks_upper.uppers chunks_upper.uppercase dates_calendar.multiple dates_calendar.leap_year dates_calendar.february dates_calendar.month_lengths dates_calendar.month_length numbers_number.admits numbers_number.run_value numbers_number.run_of numbers_number.run_at numbers_number.parse_unsigned_int numbers_number.or_kept numbers_number.behind_sign signed numbers_number.with_sign numbers_number.signed_at numbers_number.signed_run numbers_number.int_of numbers_number.parse_int strs_parse.whole_value strs_parse.digits_from strs_parse.parse strs_trim.step_by strs_trim.step_over strs_trim.trim_step strs_trim.trim_from strs_trim.trim_end strs_trim.trim points_point.windowed points_point.windowed_int points_point.short_year points_point.long_of points_point.long_year points_point.short_or points_point.year_at points_point.on_year points_point.with_time points_point.time_or points_point.behind_day points_point.behind_month points_point.behind_year points_point.point points_step.stored_part points_step.refuse_number points_step.part_at points_step.month_at points_step.day_at points_step.hour_at points_step.sixty_at points_step.hyphen_or points_step.hyphen_from points_step.hyphen_at points_step.colon_or points_step.colon_from points_step.colon_at points_step.on_part points_step.on_separator points_step.or_end points_time.shift_at points_time.offset_by points_time.offset_from points_time.offset_at points_time.with_offset points_time.behind_second points_time.behind_minute points_time.behind_hour points_time.time_at xranges_range.hyphen_run xranges_range.hyphen_from xranges_range.get_hyphen xranges_range.on_hyphen xranges_range.on_value xranges_range.years xranges_range.months xranges_range.days xranges_range.second_run xranges_range.second_at xranges_range.behind_months xranges_range.end_of_days xranges_range.day_run xranges_range.behind_month xranges_range.month_run xranges_range.month xranges_range.months_run xranges_range.behind_year xranges_range.year_run xranges_range.digit_run xranges_range.range_from xranges_range.range_dates fields_day.is_day fields_day.day_of fields_day.day_digits fields_day.day_behind fields_day.day_at fields_day.day_from fields_day.day_in_month_field fields_day.day_given fields_day.day_field fields_month.named fields_month.month_of fields_month.month_field fields_names.lower fields_names.same_letters fields_names.month_in fields_names.get_month_for_name fields_names.get_month_for_abbr fields_names.or_else fields_names.month_for fields_year.on_past fields_year.era_end fields_year.negative_era fields_year.era_at fields_year.parse_era_marker fields_year.ended fields_year.with_era fields_year.behind_digits fields_year.on_number fields_year.year_digits fields_year.year_from fields_year.behind_sign fields_year.year_at fields_year.get_year datefield_text.trimmed datefield_text.last_byte datefield_text.is_uncertain datefield_text.is_approximate datefield_text.unmarked datefield_text.first_of datefield_text.is_blank datefield_text.is_dots datefield_text.is_open datefield_value.moved datefield_value.first_half datefield_value.second_half datefield_value.on_half datefield_value.both_halves datefield_value.halves datefield_value.x_range datefield_value.value datefield_value.marked datefield_value.trimmed_date datefield_value.parse_text reader_field.on_clean reader_field.parsed reader_field.strictly reader_field.parsed_strict reader_fields.parts_checked reader_fields.fields_checked reader_fields.moved_year reader_fields.year_of reader_fields.on_month reader_fields.inside_day reader_fields.month_text reader_fields.month_alone reader_fields.field_day reader_fields.month_and_day reader_fields.parts_of reader_fields.dated reader_fields.on_year reader_fields.read_fields reader_fields.three_fields
examples-hold = refl
