-- The worked examples: what is said of cells, in three lists. Assumes nothing.
use Prim.Native.Nat.{ℕ}
use Prim.Native.String.{String}
use mathlib.Core.Path.{◌≡◌, refl}
use mathlib.Core.Bool.{Bool, true, false}
use mathlib.Core.List.{List, [], ◌∷◌, map}
use lib.IntN.{ℤ, pos, negsuc}
use Rattle.chars.specs.Ascii.{ascii}
use Rattle.refusals.specs.declared.Kind.{Kind}
use Rattle.refusals.specs.declared.Kind.TheVariants.{MonthOutOfRange, InvalidFormat, RustPanics}
use Rattle.dates.specs.declared.Day.{Day}
use Rattle.dates.specs.declared.Month.{Month}
use Rattle.std.specs.Prelude.{Option, None}
use Rattle.dates.specs.declared.Datetime.{Datetime}
use Rattle.dates.specs.declared.DateValue.{DateValue}
use Rattle.dates.specs.declared.DateValue.TheVariants.{At, After, Between}
use Rattle.dates.specs.declared.Date.{Date}
use Rattle.dates.specs.Value.{datetime, date, month, day}
use Rattle.refusals.specs.Refusal.{file_span}
use Rattle.verdicts.specs.declared.Verdict.{Verdict}
use Rattle.verdicts.specs.declared.Verdict.TheVariants.{NoDate, Full, NotStrict, ShortYear, Unread, Refused}
use Rattle.verdicts.specs.Dates.{date_verdict}
use Rattle.verdicts.specs.Windows.{is_windowed}
use Rattle.verdicts.specs.Fields.{Cells, cells, six_verdict}
use Rattle.chars.specs.Ascii as chars_ascii
use Rattle.chars.specs.Classes as chars_classes
use Rattle.chars.specs.Pick as chars_pick
use Rattle.chars.specs.Upper as chars_upper
use Rattle.chars.specs.Utf8 as chars_utf8
use Rattle.scanner.specs.Class as scanner_class
use Rattle.scanner.specs.Scan as scanner_scan
use Rattle.refusals.specs.Offset as refusals_offset
use Rattle.refusals.specs.Refusal as refusals_refusal
use Rattle.chunks.specs.Characters as chunks_characters
use Rattle.chunks.specs.Check as chunks_check
use Rattle.chunks.specs.Chunks as chunks_chunks
use Rattle.chunks.specs.Format as chunks_format
use Rattle.chunks.specs.Upper as chunks_upper
use Rattle.dates.specs.Calendar as dates_calendar
use Rattle.numbers.specs.Number as numbers_number
use Rattle.numbers.specs.Parse as strs_parse
use Rattle.numbers.specs.Trim as strs_trim
use Rattle.points.specs.Point as points_point
use Rattle.points.specs.Step as points_step
use Rattle.points.specs.Time as points_time
use Rattle.xranges.specs.Range as xranges_range
use Rattle.fields.specs.Day as fields_day
use Rattle.fields.specs.Month as fields_month
use Rattle.fields.specs.Names as fields_names
use Rattle.fields.specs.Year as fields_year
use Rattle.datefield.specs.Text as datefield_text
use Rattle.datefield.specs.Value as datefield_value
use Rattle.reading_laws.specs.Field as reader_field
use Rattle.reading_laws.specs.Fields as reader_fields
use Rattle.chars.specs.Signs.{signed}
use Rattle.strict.specs.Grammar as strict_grammar
use Rattle.strict.specs.Matcher as strict_matcher
use Rattle.sixfields.specs.Six as six
use Rattle.puts.specs.Numbers.{count, digit_count, width, decimal}
use Rattle.puts.specs.Marks.{mark_text}
use Rattle.puts.specs.Answers.{measured}
use Rattle.writer.specs.Texts.{minus, year_text, written_month, written_day, day_parts, month_parts, parts_of, part_text, hyphen_part, parts_text, datetime_text, value_text, date_text, too_large, end_panics, value_panics, panics}
use Rattle.writer.specs.Answers.{date_measured}
use Rattle.verdicts.specs.Dates as dates_specs
use Rattle.verdicts.specs.Plain as plains
use Rattle.verdicts.specs.Windows as windows
use Rattle.verdicts.specs.Fields as cells_of

-- a year alone, and the Date of a point or range without a mark
abbrev year : ℤ → Datetime
year y = datetime y None None None

abbrev plain : DateValue → Date
plain v = date v false false

-- a refusal from a place to another
abbrev refuses : Kind → ℕ → ℕ → Verdict
refuses k start end = Refused (record { kind = k; place = file_span start end })

-- ---- dates

pub record DateExample : Type 0 where
  pub of : String
  pub is : Verdict

pub dates : List DateExample
dates =
    record { of = ""; is = NoDate }
    ∷ record { of = "2000-02-29"; is = Full }
    ∷ record { of = "0049"; is = Full }
    ∷ record { of = "19XX"; is = Full }
    ∷ record { of = "2000-01-XX"; is = Full }
    ∷ record { of = "2000/2001?"; is = Full }
    -- read otherwise: the days of a month under 31 days, which the strict reader ends on the 29th, and the ported reader on the 31st
    ∷ record { of = "2000-02-XX"; is = NotStrict (plain (Between (datetime (pos 2000) (month 1) (day 0) None) (datetime (pos 2000) (month 1) (day 30) None))) }
    ∷ record { of = "2000-04-XX~"; is = NotStrict (date (Between (datetime (pos 2000) (month 3) (day 0) None) (datetime (pos 2000) (month 3) (day 30) None)) false true) }
    -- read otherwise: two digits, white space, one digit, a small letter
    ∷ record { of = "49"; is = NotStrict (plain (At (year (pos 2049)))) }
    ∷ record { of = "50"; is = NotStrict (plain (At (year (pos 1950)))) }
    ∷ record { of = "-99"; is = NotStrict (plain (At (year (pos 1901)))) }
    ∷ record { of = " 2000-1-2 "; is = NotStrict (plain (At (datetime (pos 2000) (month 0) (day 1) None))) }
    ∷ record { of = "19xx"; is = NotStrict (plain (Between (year (pos 1900)) (year (pos 1999)))) }
    ∷ record { of = "2000/01"; is = NotStrict (plain (Between (year (pos 2000)) (year (pos 2001)))) }
    ∷ record { of = "2000/"; is = NotStrict (plain (After (year (pos 2000)))) }
    ∷ record { of = "49~"; is = NotStrict (date (At (year (pos 2049))) false true) }
    -- refused: what the ported reader says, and where
    ∷ record { of = "2000-13-01"; is = refuses MonthOutOfRange 5 7 }
    ∷ record { of = "149"; is = refuses InvalidFormat 0 3 }
    ∷ record { of = "1000 BC"; is = refuses InvalidFormat 5 5 }
    ∷ record { of = " "; is = refuses InvalidFormat 0 0 }
    ∷ []

pub dates-hold : map (λ (e : DateExample). date_verdict (ascii e.of)) dates ≡ map (λ (e : DateExample). e.is) dates
unfolding dates chars_ascii.digit_of chars_classes.within chars_classes.is_admitted chars_classes.is_whitespace chars_classes.is_ascii_digit chars_classes.is_numeric chars_classes.is_ascii_alphabetic chars_classes.is_alphabetic chars_classes.is_alphanumeric chars_pick.pick chars_upper.loses32 chars_upper.upper_of chars_upper.codes_of chars_utf8.len_of chars_utf8.is_cont chars_utf8.is_surrogate chars_utf8.decode2 chars_utf8.decode3 chars_utf8.decode4 chars_utf8.decode chars_utf8.first chars_utf8.decode_at chars_utf8.len_d chars_utf8.encode chars_utf8.encode_all scanner_class.in_class scanner_scan.len_in scanner_scan.match_len scanner_scan.walk scanner_scan.eat_while scanner_scan.eat_if scanner_scan.begins scanner_scan.eat_text scanner_scan.eaten scanner_scan.eat_at scanner_scan.stands_at scanner_scan.done_at scanner_scan.part scanner_scan.run_at scanner_scan.next_run refusals_offset.saturating_add refusals_offset.offset refusals_offset.offset_second refusals_offset.unshifted refusals_refusal.refusal chunks_characters.and_then chunks_characters.up_to chunks_characters.characters chunks_characters.codes_of chunks_characters.codes chunks_check.fault_in chunks_check.or_else chunks_check.fault_of chunks_check.checked chunks_chunks.chunks_of chunks_chunks.kinds_known chunks_chunks.lengths chunks_chunks.fits chunks_chunks.is_short chunks_chunks.last_end chunks_chunks.span_of chunks_format.is_break chunks_format.one_out chunks_format.normal chunks_format.last_white chunks_format.chunk_out chunks_format.chunk_flag chunks_format.chunks_out chunks_format.formatted chunks_upper.upper_out chunks_upper.uppers chunks_upper.uppercase dates_calendar.multiple dates_calendar.leap_year dates_calendar.february dates_calendar.month_lengths dates_calendar.month_length numbers_number.admits numbers_number.run_value numbers_number.run_of numbers_number.run_at numbers_number.parse_unsigned_int numbers_number.or_kept numbers_number.behind_sign signed numbers_number.with_sign numbers_number.signed_at numbers_number.signed_run numbers_number.int_of numbers_number.parse_int strs_parse.whole_value strs_parse.digits_from strs_parse.parse strs_trim.step_by strs_trim.step_over strs_trim.trim_step strs_trim.trim_from strs_trim.trim_end strs_trim.trim points_point.windowed points_point.windowed_int points_point.short_year points_point.long_of points_point.long_year points_point.short_or points_point.year_at points_point.on_year points_point.with_time points_point.time_or points_point.behind_day points_point.behind_month points_point.behind_year points_point.point points_step.stored_part points_step.refuse_number points_step.part_at points_step.month_at points_step.day_at points_step.hour_at points_step.sixty_at points_step.hyphen_or points_step.hyphen_from points_step.hyphen_at points_step.colon_or points_step.colon_from points_step.colon_at points_step.on_part points_step.on_separator points_step.or_end points_time.shift_at points_time.offset_by points_time.offset_from points_time.offset_at points_time.with_offset points_time.behind_second points_time.behind_minute points_time.behind_hour points_time.time_at xranges_range.hyphen_run xranges_range.hyphen_from xranges_range.get_hyphen xranges_range.on_hyphen xranges_range.on_value xranges_range.years xranges_range.months xranges_range.days xranges_range.second_run xranges_range.second_at xranges_range.behind_months xranges_range.end_of_days xranges_range.day_run xranges_range.behind_month xranges_range.month_run xranges_range.month xranges_range.months_run xranges_range.behind_year xranges_range.year_run xranges_range.digit_run xranges_range.range_from xranges_range.range_dates datefield_text.trimmed datefield_text.last_byte datefield_text.is_uncertain datefield_text.is_approximate datefield_text.unmarked datefield_text.first_of datefield_text.is_blank datefield_text.is_dots datefield_text.is_open datefield_value.moved datefield_value.first_half datefield_value.second_half datefield_value.on_half datefield_value.both_halves datefield_value.halves datefield_value.x_range datefield_value.value datefield_value.marked datefield_value.trimmed_date datefield_value.parse_text reader_field.on_clean reader_field.parsed reader_field.strictly reader_field.parsed_strict strict_grammar.last_day strict_matcher.two strict_matcher.on strict_matcher.on_four strict_matcher.four strict_matcher.counted strict_matcher.field strict_matcher.shift_at strict_matcher.offset_at strict_matcher.time_at strict_matcher.behind_month strict_matcher.behind_year strict_matcher.point_at strict_matcher.point strict_matcher.dash_xx strict_matcher.years strict_matcher.months strict_matcher.days strict_matcher.unknown_years strict_matcher.unknown_parts strict_matcher.unknown strict_matcher.marked strict_matcher.ending strict_matcher.is_open strict_matcher.on_point strict_matcher.behind_open strict_matcher.behind_slash strict_matcher.from_point strict_matcher.of_points strict_matcher.on_unknown strict_matcher.text_of strict_matcher.strict dates_specs.end_day dates_specs.same_day dates_specs.is_same dates_specs.by_readers dates_specs.date_verdict
dates-hold = refl

-- ---- years of two digits

pub record WindowExample : Type 0 where
  pub of : String
  pub is : Bool

pub windowed : List WindowExample
windowed =
    record { of = "49"; is = true }
    ∷ record { of = " - 49-01"; is = true }
    ∷ record { of = "-99"; is = true }
    ∷ record { of = "2000/01"; is = true }
    ∷ record { of = "00/2001"; is = true }
    ∷ record { of = "2000"; is = false }
    ∷ record { of = "2000-49"; is = false }
    ∷ record { of = "9"; is = false }
    ∷ record { of = "199"; is = false }
    ∷ record { of = "19XX"; is = false }
    ∷ record { of = "49x"; is = false }
    ∷ record { of = "/"; is = false }
    ∷ record { of = ""; is = false }
    ∷ []

pub windowed-hold : map (λ (e : WindowExample). is_windowed (ascii e.of)) windowed ≡ map (λ (e : WindowExample). e.is) windowed
unfolding windowed chars_ascii.digit_of chars_classes.within chars_classes.is_admitted chars_classes.is_whitespace chars_classes.is_ascii_digit chars_classes.is_numeric chars_classes.is_ascii_alphabetic chars_classes.is_alphabetic chars_classes.is_alphanumeric chars_pick.pick chars_utf8.len_of chars_utf8.is_cont chars_utf8.is_surrogate chars_utf8.decode2 chars_utf8.decode3 chars_utf8.decode4 chars_utf8.decode chars_utf8.first chars_utf8.decode_at chars_utf8.len_d chars_utf8.encode chars_utf8.encode_all scanner_class.in_class scanner_scan.len_in scanner_scan.match_len scanner_scan.walk scanner_scan.eat_while scanner_scan.eat_if scanner_scan.begins scanner_scan.eat_text scanner_scan.eaten scanner_scan.eat_at scanner_scan.stands_at scanner_scan.done_at scanner_scan.part scanner_scan.run_at scanner_scan.next_run numbers_number.admits numbers_number.run_value numbers_number.run_of numbers_number.run_at numbers_number.parse_unsigned_int numbers_number.or_kept numbers_number.behind_sign signed numbers_number.with_sign numbers_number.signed_at numbers_number.signed_run numbers_number.int_of numbers_number.parse_int strs_parse.whole_value strs_parse.digits_from strs_parse.parse datefield_text.first_of windows.stands windows.has_x windows.is_int windows.begins_two windows.either_two windows.is_windowed
windowed-hold = refl

-- ---- six cells

abbrev row : String → String → String → Cells
row y m d = cells (ascii y) (ascii m) (ascii d)

abbrev empty : Cells
empty = row "" "" ""

-- not strict, and this is read
abbrev read : ℤ → Option Month → Option Day → Verdict
read y m d = NotStrict (plain (At (datetime y m d None)))

pub record SixExample : Type 0 where
  pub start : Cells
  pub end : Cells
  pub is : Verdict

pub sixes : List SixExample
sixes =
    record { start = empty; end = empty; is = NoDate }
    ∷ record { start = row "2000" "2" "29"; end = empty; is = Full }
    ∷ record { start = row "0049" "" ""; end = empty; is = Full }
    ∷ record { start = row "1000 BC" "" ""; end = empty; is = Full }
    ∷ record { start = row "49 AD" "" ""; end = empty; is = Full }
    ∷ record { start = row "49 CE" "" ""; end = empty; is = Full }
    ∷ record { start = row "9 BCE" "" ""; end = empty; is = Full }
    ∷ record { start = row "-0049" "12" "31"; end = empty; is = Full }
    ∷ record { start = row "2000" "Sept" "4"; end = empty; is = Full }
    ∷ record { start = row "2000" "" ""; end = row " " "" ""; is = Unread }
    ∷ record { start = row "2000" "2" ""; end = row "2001" "mar" "4"; is = Full }
    -- fewer than four digits, and what is read
    ∷ record { start = row "49" "" ""; end = empty; is = ShortYear (plain (At (year (pos 49)))) }
    ∷ record { start = row " -149 " "12" ""; end = empty; is = ShortYear (plain (At (datetime (negsuc 148) (month 11) None None))) }
    ∷ record { start = row "2000" "" ""; end = row "1" "" ""; is = ShortYear (plain (Between (year (pos 2000)) (year (pos 1)))) }
    -- a day without a month, an end without its year, an end day without its month
    ∷ record { start = row "2000" "" "1"; end = empty; is = Unread }
    ∷ record { start = row "" "" "1"; end = empty; is = Unread }
    ∷ record { start = row "2000" "" ""; end = row "" "1" ""; is = Unread }
    ∷ record { start = row "2000" "" ""; end = row " " "" "1"; is = Unread }
    ∷ record { start = row "2000" "" ""; end = row "2001" "" "1"; is = Unread }
    -- refused
    ∷ record { start = row "" "1" ""; end = empty; is = refuses InvalidFormat 0 0 }
    ∷ record { start = empty; end = row "2000" "" ""; is = refuses InvalidFormat 0 0 }
    ∷ record { start = row "2000" "0" ""; end = empty; is = refuses RustPanics 0 0 }
    ∷ record { start = row "2000" "" ""; end = row "x" "" ""; is = refuses InvalidFormat 0 0 }
    ∷ []

pub sixes-hold : map (λ (e : SixExample). six_verdict e.start e.end) sixes ≡ map (λ (e : SixExample). e.is) sixes
unfolding sixes chars_ascii.digit_of chars_classes.within chars_classes.is_admitted chars_classes.is_whitespace chars_classes.is_ascii_digit chars_classes.is_numeric chars_classes.is_ascii_alphabetic chars_classes.is_alphabetic chars_classes.is_alphanumeric chars_pick.pick chars_utf8.len_of chars_utf8.is_cont chars_utf8.is_surrogate chars_utf8.decode2 chars_utf8.decode3 chars_utf8.decode4 chars_utf8.decode chars_utf8.first chars_utf8.decode_at chars_utf8.len_d chars_utf8.encode chars_utf8.encode_all scanner_class.in_class scanner_scan.len_in scanner_scan.match_len scanner_scan.walk scanner_scan.eat_while scanner_scan.eat_if scanner_scan.begins scanner_scan.eat_text scanner_scan.eaten scanner_scan.eat_at scanner_scan.stands_at scanner_scan.done_at scanner_scan.part refusals_offset.saturating_add refusals_offset.offset refusals_offset.offset_second refusals_offset.unshifted refusals_refusal.refusal chunks_characters.and_then chunks_characters.up_to chunks_characters.characters chunks_characters.codes_of chunks_characters.codes chunks_check.fault_in chunks_check.or_else chunks_check.fault_of chunks_check.checked chunks_chunks.chunks_of chunks_chunks.kinds_known chunks_chunks.lengths chunks_chunks.fits chunks_chunks.is_short chunks_chunks.last_end chunks_chunks.span_of chunks_format.is_break chunks_format.one_out chunks_format.normal chunks_format.last_white chunks_format.chunk_out chunks_format.chunk_flag chunks_format.chunks_out chunks_format.formatted numbers_number.admits numbers_number.run_value numbers_number.run_of numbers_number.run_at numbers_number.parse_unsigned_int strs_parse.whole_value strs_parse.digits_from strs_parse.parse strs_trim.step_by strs_trim.step_over strs_trim.trim_step strs_trim.trim_from strs_trim.trim_end strs_trim.trim fields_day.is_day fields_day.day_of fields_day.day_digits fields_day.day_behind fields_day.day_at fields_day.day_from fields_day.day_in_month_field fields_day.day_given fields_day.day_field fields_month.named fields_month.month_of fields_month.month_field fields_names.lower fields_names.same_letters fields_names.month_in fields_names.get_month_for_name fields_names.get_month_for_abbr fields_names.or_else fields_names.month_for fields_year.on_past fields_year.era_end fields_year.negative_era fields_year.era_at fields_year.parse_era_marker fields_year.ended fields_year.with_era fields_year.behind_digits fields_year.on_number fields_year.year_digits fields_year.year_from fields_year.behind_sign fields_year.year_at fields_year.get_year datefield_text.is_blank reader_field.on_clean reader_fields.parts_checked reader_fields.fields_checked reader_fields.moved_year reader_fields.year_of reader_fields.on_month reader_fields.inside_day reader_fields.month_text reader_fields.month_alone reader_fields.field_day reader_fields.month_and_day reader_fields.parts_of reader_fields.dated reader_fields.on_year reader_fields.read_fields reader_fields.three_fields six.judged six.blank six.end_year_of six.single six.unmarked six.on_three six.between six.on_end_year six.with_end six.six_fields numbers_number.or_kept numbers_number.behind_sign cells_of.some_given cells_of.day_alone cells_of.behind_blank cells_of.is_unread cells_of.six_read cells_of.is_few cells_of.few_from cells_of.few_digits cells_of.either_few dates_calendar.multiple dates_calendar.leap_year dates_calendar.february dates_calendar.month_lengths dates_calendar.month_length reader_field.parsed reader_field.strictly reader_field.parsed_strict strict_grammar.last_day strict_matcher.two strict_matcher.on strict_matcher.on_four strict_matcher.four strict_matcher.counted strict_matcher.field strict_matcher.shift_at strict_matcher.offset_at strict_matcher.time_at strict_matcher.behind_month strict_matcher.behind_year strict_matcher.point_at strict_matcher.point strict_matcher.dash_xx strict_matcher.years strict_matcher.months strict_matcher.days strict_matcher.unknown_years strict_matcher.unknown_parts strict_matcher.unknown strict_matcher.marked strict_matcher.ending strict_matcher.is_open strict_matcher.on_point strict_matcher.behind_open strict_matcher.behind_slash strict_matcher.from_point strict_matcher.of_points strict_matcher.on_unknown strict_matcher.text_of strict_matcher.strict date_measured measured panics value_panics end_panics too_large date_text value_text datetime_text year_text minus decimal width digit_count count parts_of month_parts day_parts written_month written_day parts_text hyphen_part part_text mark_text plains.is_digits plains.is_full_year plains.ends_in plains.ends_in_era plains.has_era plains.is_era_year plains.is_plain_year plains.is_named plains.is_plain_month plains.is_plain_day plains.text_if plains.written_text plains.is_accepted plains.is_strict_text plains.is_strict cells_of.are_plain cells_of.both_plain cells_of.verdict_of cells_of.read_verdict cells_of.given_verdict cells_of.six_verdict signed
sixes-hold = refl

pub others : List SixExample
others =
    -- no such month, no such day
    record { start = row "2000" "99" "31"; end = empty; is = read (pos 2000) (month 98) (day 30) }
    ∷ record { start = row "2000" "13" ""; end = empty; is = read (pos 2000) (month 12) None }
    ∷ record { start = row "1900" "2" "29"; end = empty; is = read (pos 1900) (month 1) (day 28) }
    -- a month that is none goes, and the text has no day without it
    ∷ record { start = row "2000" "febr" "4"; end = empty; is = read (pos 2000) None (day 3) }
    ∷ record { start = row "2000" "jul,4" ""; end = empty; is = read (pos 2000) (month 6) None }
    -- what is read right and does not stand as it should
    ∷ record { start = row "2000 " "" ""; end = empty; is = read (pos 2000) None None }
    ∷ record { start = row "+2000" "" ""; end = empty; is = read (pos 2000) None None }
    ∷ record { start = row "49  AD" "" ""; end = empty; is = read (pos 49) None None }
    ∷ record { start = row "5 BC, or so" "" ""; end = empty; is = read (negsuc 3) None None }
    ∷ record { start = row "2000" " 7" ""; end = empty; is = read (pos 2000) (month 6) None }
    ∷ record { start = row "2000" "7" "+4"; end = empty; is = read (pos 2000) (month 6) (day 3) }
    ∷ record { start = row "2000" "" ""; end = row "2001" "7" "004"; is = NotStrict (plain (Between (year (pos 2000)) (datetime (pos 2001) (month 6) (day 3) None))) }
    ∷ []

pub others-hold : map (λ (e : SixExample). six_verdict e.start e.end) others ≡ map (λ (e : SixExample). e.is) others
unfolding others chars_ascii.digit_of chars_classes.within chars_classes.is_admitted chars_classes.is_whitespace chars_classes.is_ascii_digit chars_classes.is_numeric chars_classes.is_ascii_alphabetic chars_classes.is_alphabetic chars_classes.is_alphanumeric chars_pick.pick chars_utf8.len_of chars_utf8.is_cont chars_utf8.is_surrogate chars_utf8.decode2 chars_utf8.decode3 chars_utf8.decode4 chars_utf8.decode chars_utf8.first chars_utf8.decode_at chars_utf8.len_d chars_utf8.encode chars_utf8.encode_all scanner_class.in_class scanner_scan.len_in scanner_scan.match_len scanner_scan.walk scanner_scan.eat_while scanner_scan.eat_if scanner_scan.begins scanner_scan.eat_text scanner_scan.eaten scanner_scan.eat_at scanner_scan.stands_at scanner_scan.done_at scanner_scan.part refusals_offset.saturating_add refusals_offset.offset refusals_offset.offset_second refusals_offset.unshifted refusals_refusal.refusal chunks_characters.and_then chunks_characters.up_to chunks_characters.characters chunks_characters.codes_of chunks_characters.codes chunks_check.fault_in chunks_check.or_else chunks_check.fault_of chunks_check.checked chunks_chunks.chunks_of chunks_chunks.kinds_known chunks_chunks.lengths chunks_chunks.fits chunks_chunks.is_short chunks_chunks.last_end chunks_chunks.span_of chunks_format.is_break chunks_format.one_out chunks_format.normal chunks_format.last_white chunks_format.chunk_out chunks_format.chunk_flag chunks_format.chunks_out chunks_format.formatted numbers_number.admits numbers_number.run_value numbers_number.run_of numbers_number.run_at numbers_number.parse_unsigned_int strs_parse.whole_value strs_parse.digits_from strs_parse.parse strs_trim.step_by strs_trim.step_over strs_trim.trim_step strs_trim.trim_from strs_trim.trim_end strs_trim.trim fields_day.is_day fields_day.day_of fields_day.day_digits fields_day.day_behind fields_day.day_at fields_day.day_from fields_day.day_in_month_field fields_day.day_given fields_day.day_field fields_month.named fields_month.month_of fields_month.month_field fields_names.lower fields_names.same_letters fields_names.month_in fields_names.get_month_for_name fields_names.get_month_for_abbr fields_names.or_else fields_names.month_for fields_year.on_past fields_year.era_end fields_year.negative_era fields_year.era_at fields_year.parse_era_marker fields_year.ended fields_year.with_era fields_year.behind_digits fields_year.on_number fields_year.year_digits fields_year.year_from fields_year.behind_sign fields_year.year_at fields_year.get_year datefield_text.is_blank reader_field.on_clean reader_fields.parts_checked reader_fields.fields_checked reader_fields.moved_year reader_fields.year_of reader_fields.on_month reader_fields.inside_day reader_fields.month_text reader_fields.month_alone reader_fields.field_day reader_fields.month_and_day reader_fields.parts_of reader_fields.dated reader_fields.on_year reader_fields.read_fields reader_fields.three_fields six.judged six.blank six.end_year_of six.single six.unmarked six.on_three six.between six.on_end_year six.with_end six.six_fields numbers_number.or_kept numbers_number.behind_sign cells_of.some_given cells_of.day_alone cells_of.behind_blank cells_of.is_unread cells_of.six_read cells_of.is_few cells_of.few_from cells_of.few_digits cells_of.either_few dates_calendar.multiple dates_calendar.leap_year dates_calendar.february dates_calendar.month_lengths dates_calendar.month_length reader_field.parsed reader_field.strictly reader_field.parsed_strict strict_grammar.last_day strict_matcher.two strict_matcher.on strict_matcher.on_four strict_matcher.four strict_matcher.counted strict_matcher.field strict_matcher.shift_at strict_matcher.offset_at strict_matcher.time_at strict_matcher.behind_month strict_matcher.behind_year strict_matcher.point_at strict_matcher.point strict_matcher.dash_xx strict_matcher.years strict_matcher.months strict_matcher.days strict_matcher.unknown_years strict_matcher.unknown_parts strict_matcher.unknown strict_matcher.marked strict_matcher.ending strict_matcher.is_open strict_matcher.on_point strict_matcher.behind_open strict_matcher.behind_slash strict_matcher.from_point strict_matcher.of_points strict_matcher.on_unknown strict_matcher.text_of strict_matcher.strict date_measured measured panics value_panics end_panics too_large date_text value_text datetime_text year_text minus decimal width digit_count count parts_of month_parts day_parts written_month written_day parts_text hyphen_part part_text mark_text plains.is_digits plains.is_full_year plains.ends_in plains.ends_in_era plains.has_era plains.is_era_year plains.is_plain_year plains.is_named plains.is_plain_month plains.is_plain_day plains.text_if plains.written_text plains.is_accepted plains.is_strict_text plains.is_strict cells_of.are_plain cells_of.both_plain cells_of.verdict_of cells_of.read_verdict cells_of.given_verdict cells_of.six_verdict signed
others-hold = refl
