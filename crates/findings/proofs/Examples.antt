-- The lines that are said, each message once, with its literal text. Assumes nothing.
use mathlib.Core.Path.{◌≡◌, refl}
use mathlib.Core.Bool.{Bool, true, false}
use mathlib.Core.List.{List, [], ◌∷◌, map}
use Prim.Native.Nat.{ℕ}
use Prim.Native.String.{String}
use lib.IntN.{pos}
use Rattle.chars.specs.Pick.{pick}
use Rattle.chars.specs.Ascii.{ascii}
use Rattle.dates.specs.declared.Season.TheVariants.{Spring}
use Rattle.std.specs.Prelude.{Some, None}
use Rattle.dates.specs.declared.DateValue.TheVariants.{At, Between}
use Rattle.dates.specs.declared.Date.{Date}
use Rattle.dates.specs.Value.{month, day, datetime, season_of, date}
use Rattle.refusals.specs.declared.Kind.{Kind}
use Rattle.refusals.specs.declared.Kind.TheVariants.{UndefinedRange, DayOutOfRange, MonthOutOfRange, InvalidNumber, MissingNumber, WrongNumberOfDigits, InvalidFormat, YearZeroCE, RustPanics, BadUtf8, UnsupportedChar, NotStrict, NoRoom, BadFrame, BadChunks, TooLong, NotACalendarDate, BadPeriod, DuplicateEntry, ChronologyFull, UnknownEntry, BadTime, NotLevelOne, HasSeason, NoInstant, BadChronology}
use Rattle.refusals.specs.Refusal.{file_span, refusal}
use Rattle.puts.specs.Numbers.{count, digit_count, width, decimal}
use Rattle.puts.specs.Marks.{mark_text}
use Rattle.puts.specs.Answers.{measured}
use Rattle.writer.specs.Texts.{minus, year_text, written_month, written_day, day_parts, month_parts, parts_of, part_text, hyphen_part, parts_text, datetime_text, value_text, date_text, too_large, end_panics, value_panics, panics}
use Rattle.writer.specs.Answers.{date_measured}
use Rattle.answers.specs.Answer.{glyph}
use Rattle.verdicts.specs.declared.Verdict.{Verdict}
use Rattle.verdicts.specs.declared.Verdict.TheVariants.{NoDate, Full, NotStrict as ReadOtherwise, ShortYear, Unread, Refused}
use Rattle.csv_rows.specs.declared.Fault.TheVariants.{QuoteInside, TextBehind, LoneReturn, NeverClosed, TooLong as TooLongRow, TooMany}
use Rattle.findings.specs.declared.Column.{Column}
use Rattle.findings.specs.declared.Column.TheVariants.{Date as DateColumn, Origdate, Eventdate, Urldate}
use Rattle.headers.specs.declared.RowFault.{RowFault}
use Rattle.headers.specs.declared.RowFault.TheVariants.{Broken, Cells, BadUtf8 as BadRowUtf8, LongCell}
use Rattle.headers.specs.declared.Unusable.{Unusable}
use Rattle.headers.specs.declared.Unusable.TheVariants.{Empty, NoColumn, Twice, Returns, NoRow}
use Rattle.findings.specs.Escapes.{is_hidden, is_marked, shown_byte, escaped, quoted}
use Rattle.verdicts.specs.Plain.{text_if, written_text}
use Rattle.findings.specs.Words.{capped, kind_words, place_words, refusal_words, window_words, is_said, sort, message, fault_words, row_words}
use Rattle.findings.specs.Lines.{finding, verdict_line, column_name, date_line, named_cell, still_first, six_text, six_line, bad_row_line, signing, summary, unusable_words, unread_line}
use Rattle.findings.specs.Sorts.{before_parts, cut_at, line_sort, is_same, count_sort, lines_of_sort}

-- ---- bytes of the file

-- a text, and how it is shown
pub record Shown : Type 0 where
  pub of : List ℕ
  pub text : String

abbrev pub escapes : List Shown
escapes =
    record { of = []; text = "" }
    ∷ record { of = ascii "Smith, J."; text = "Smith, J." }
    ∷ record { of = ascii "a \"b\" c:\\d"; text = "a \\\"b\\\" c:\\\\d" }
    ∷ record { of = 0 ∷ 9 ∷ 10 ∷ 13 ∷ 31 ∷ 32 ∷ []; text = "\\x00\\x09\\x0a\\x0d\\x1f " }
    ∷ record { of = 126 ∷ 127 ∷ []; text = "~\\x7f" }
    ∷ []

pub all-escapes : map (λ (e : Shown). escaped e.of) escapes ≡ map (λ (e : Shown). ascii e.text) escapes
unfolding escaped shown_byte is_hidden is_marked glyph pick
all-escapes = refl

-- a byte from 128 on is left as it is
pub high-bytes : quoted (0xC3 ∷ 0xA9 ∷ 0xFF ∷ []) ≡ 34 ∷ 0xC3 ∷ 0xA9 ∷ 0xFF ∷ 34 ∷ []
unfolding quoted escaped shown_byte is_hidden is_marked pick
high-bytes = refl

-- ---- a date in one cell

pub record DateExample : Type 0 where
  pub line : ℕ
  pub key : String
  pub column : Column
  pub cell : String
  pub verdict : Verdict
  pub windowed : Bool
  pub text : String

-- a day, the days of a month as the ported reader has them, a Date that the writer panics at, and one that it refuses
abbrev some_day : Date
some_day = date (At (datetime (pos 1951) (month 6) (day 2) None)) false false

abbrev month_days : Date
month_days = date (Between (datetime (pos 2000) (month 1) (day 0) None) (datetime (pos 2000) (month 1) (day 30) None)) false false

abbrev too_late : Date
too_late = date (At (datetime (pos 1951) (month 255) None None)) false false

abbrev spring : Date
spring = date (At (season_of (pos 1951) (Some Spring))) false false

abbrev pub date_lines : List DateExample
date_lines =
    record { line = 1; key = "k"; column = DateColumn; cell = ""; verdict = NoDate; windowed = false; text = "" }
    ∷ record { line = 1; key = "k"; column = DateColumn; cell = "1951-07-03"; verdict = Full; windowed = false; text = "" }
    ∷ record { line = 2; key = "smith"; column = DateColumn; cell = "51-07-03"; verdict = ReadOtherwise some_day; windowed = true; text = "2\tsmith\tdate\t\"51-07-03\"\tnot strict\tnot a full date; the typesetting run would print 1951-07-03; a year of two digits is put into a century\n" }
    ∷ record { line = 3; key = "k"; column = DateColumn; cell = "2000-02-XX"; verdict = ReadOtherwise month_days; windowed = false; text = "3\tk\tdate\t\"2000-02-XX\"\tnot strict\tnot a full date; the typesetting run would print 2000-02-01/2000-02-31\n" }
    ∷ record { line = 4294967295; key = ""; column = Origdate; cell = "1951-7-3"; verdict = ReadOtherwise some_day; windowed = false; text = "4294967295\t\torigdate\t\"1951-7-3\"\tnot strict\tnot a full date; the typesetting run would print 1951-07-03\n" }
    ∷ record { line = 10; key = "a\tb"; column = Eventdate; cell = "say \"1951\""; verdict = Refused (refusal InvalidNumber (file_span 0 3)); windowed = true; text = "10\ta\\x09b\teventdate\t\"say \\\"1951\\\"\"\trefused\tnot a number, or out of its range, at 0..3\n" }
    ∷ record { line = 11; key = "k"; column = Urldate; cell = "51"; verdict = ShortYear some_day; windowed = true; text = "11\tk\turldate\t\"51\"\tshort year\ta year of fewer than four digits is read as it stands; the typesetting run would print 1951-07-03\n" }
    ∷ record { line = 12; key = "k"; column = DateColumn; cell = "x"; verdict = Unread; windowed = false; text = "12\tk\tdate\t\"x\"\trefused\ta part is not read: a day needs its month, an end its year\n" }
    ∷ record { line = 13; key = "k"; column = DateColumn; cell = "x"; verdict = ReadOtherwise too_late; windowed = false; text = "13\tk\tdate\t\"x\"\tnot strict\tnot a full date; the typesetting run would print \n" }
    ∷ record { line = 14; key = "k"; column = DateColumn; cell = "x"; verdict = ReadOtherwise spring; windowed = false; text = "14\tk\tdate\t\"x\"\tnot strict\tnot a full date; the typesetting run would print \n" }
    ∷ []

pub all-date-lines : map (λ (e : DateExample). date_line e.line (ascii e.key) e.column (ascii e.cell) e.verdict e.windowed) date_lines ≡ map (λ (e : DateExample). ascii e.text) date_lines
unfolding date_line verdict_line column_name finding sort message window_words is_said refusal_words kind_words place_words capped written_text text_if quoted escaped shown_byte is_hidden is_marked glyph refusal date_measured measured panics value_panics end_panics too_large date_text value_text datetime_text year_text minus decimal width digit_count count parts_of month_parts day_parts written_month written_day parts_text hyphen_part part_text mark_text pick
all-date-lines = refl

-- ---- a date in six cells

pub record SixExample : Type 0 where
  pub year : String
  pub month : String
  pub day : String
  pub end_year : String
  pub end_month : String
  pub end_day : String
  pub verdict : Verdict
  pub text : String

abbrev pub six_lines : List SixExample
six_lines =
    record { year = ""; month = ""; day = ""; end_year = ""; end_month = ""; end_day = ""; verdict = NoDate; text = "" }
    ∷ record { year = "1949"; month = ""; day = ""; end_year = ""; end_month = ""; end_day = ""; verdict = Full; text = "" }
    ∷ record { year = "49"; month = "7"; day = ""; end_year = ""; end_month = ""; end_day = ""; verdict = ShortYear (date (At (datetime (pos 49) (month 6) None None)) false false); text = "3\tk\tyear\tyear \"49\", month \"7\"\tshort year\ta year of fewer than four digits is read as it stands; the typesetting run would print 0049-07\n" }
    ∷ record { year = "1"; month = "2"; day = "3"; end_year = "4"; end_month = "5"; end_day = "6"; verdict = Refused (refusal DayOutOfRange (file_span 0 1)); text = "3\tk\tyear\tyear \"1\", month \"2\", day \"3\", endyear \"4\", endmonth \"5\", endday \"6\"\trefused\tno such day, at 0..1\n" }
    ∷ record { year = ""; month = ""; day = "3"; end_year = ""; end_month = ""; end_day = "\""; verdict = Unread; text = "3\tk\tyear\tday \"3\", endday \"\\\"\"\trefused\ta part is not read: a day needs its month, an end its year\n" }
    ∷ record { year = ""; month = ""; day = ""; end_year = ""; end_month = ""; end_day = ""; verdict = Unread; text = "3\tk\tyear\t\trefused\ta part is not read: a day needs its month, an end its year\n" }
    ∷ []

pub all-six-lines : map (λ (e : SixExample). six_line 3 (ascii "k") (ascii e.year) (ascii e.month) (ascii e.day) (ascii e.end_year) (ascii e.end_month) (ascii e.end_day) e.verdict) six_lines ≡ map (λ (e : SixExample). ascii e.text) six_lines
unfolding six_line six_text named_cell still_first verdict_line finding sort message is_said refusal_words kind_words place_words capped written_text text_if quoted escaped shown_byte is_hidden is_marked glyph refusal date_measured measured panics value_panics end_panics too_large date_text value_text datetime_text year_text minus decimal width digit_count count parts_of month_parts day_parts written_month written_day parts_text hyphen_part part_text mark_text pick
all-six-lines = refl

-- ---- refusals

pub record KindExample : Type 0 where
  pub of : Kind
  pub text : String

abbrev pub kinds : List KindExample
kinds =
    record { of = UndefinedRange; text = "a range that is open on both sides, at 7..12" }
    ∷ record { of = DayOutOfRange; text = "no such day, at 7..12" }
    ∷ record { of = MonthOutOfRange; text = "no such month, at 7..12" }
    ∷ record { of = InvalidNumber; text = "not a number, or out of its range, at 7..12" }
    ∷ record { of = MissingNumber; text = "a number is missing, at 7..12" }
    ∷ record { of = WrongNumberOfDigits; text = "too few or too many digits, at 7..12" }
    ∷ record { of = InvalidFormat; text = "not in the form of a date, at 7..12" }
    ∷ record { of = YearZeroCE; text = "an era has no year zero, at 7..12" }
    ∷ record { of = RustPanics; text = "the typesetting run would stop here" }
    ∷ record { of = BadUtf8; text = "bytes that are not UTF-8, at 7..12" }
    ∷ record { of = UnsupportedChar; text = "a character that no date has, at 7..12" }
    ∷ record { of = NotStrict; text = "not read" }
    ∷ record { of = NoRoom; text = "not read" }
    ∷ record { of = BadFrame; text = "not read" }
    ∷ record { of = BadChunks; text = "not read" }
    ∷ record { of = TooLong; text = "longer than 4,096 bytes" }
    ∷ record { of = NotACalendarDate; text = "not read" }
    ∷ record { of = BadPeriod; text = "not read" }
    ∷ record { of = DuplicateEntry; text = "not read" }
    ∷ record { of = ChronologyFull; text = "not read" }
    ∷ record { of = UnknownEntry; text = "not read" }
    ∷ record { of = BadTime; text = "not read" }
    ∷ record { of = NotLevelOne; text = "not read" }
    ∷ record { of = HasSeason; text = "not read" }
    ∷ record { of = NoInstant; text = "not read" }
    ∷ record { of = BadChronology; text = "not read" }
    ∷ []

pub all_kinds : map (λ (e : KindExample). refusal_words (refusal e.of (file_span 7 12))) kinds ≡ map (λ (e : KindExample). ascii e.text) kinds
unfolding refusal_words kind_words place_words capped refusal decimal width digit_count count pick
all_kinds = refl

-- a place that is too large is said as the largest of 32 bits
pub large-places : refusal_words (refusal DayOutOfRange (file_span 4294967295 4294967296)) ≡ ascii "no such day, at 4294967295..4294967295"
unfolding refusal_words kind_words place_words capped refusal decimal width digit_count count pick
large-places = refl

-- ---- rows

pub record RowExample : Type 0 where
  pub of : RowFault
  pub text : String

abbrev pub rows : List RowExample
rows =
    record { of = Broken (QuoteInside 17); text = "8\t\t\t\tbad row\ta quote in a cell that has none around it, at 17\n" }
    ∷ record { of = Broken (TextBehind 0); text = "8\t\t\t\tbad row\ttext behind a closing quote, at 0\n" }
    ∷ record { of = Broken (LoneReturn 9); text = "8\t\t\t\tbad row\ta carriage return without a line feed, at 9\n" }
    ∷ record { of = Broken (NeverClosed 10); text = "8\t\t\t\tbad row\ta quote that is never closed, at 10\n" }
    ∷ record { of = Broken (TooLongRow 65535); text = "8\t\t\t\tbad row\tlonger than 65,536 bytes, its last cell from 65535 on\n" }
    ∷ record { of = Broken TooMany; text = "8\t\t\t\tbad row\tmore than 256 cells\n" }
    ∷ record { of = Cells 5 7; text = "8\t\t\t\tbad row\t5 cells where the header has 7\n" }
    ∷ record { of = Cells 4294967296 4294967297; text = "8\t\t\t\tbad row\t4294967295 cells where the header has 4294967295\n" }
    ∷ record { of = BadRowUtf8 12; text = "8\t\t\t\tbad row\tbytes that are not UTF-8, at 12\n" }
    ∷ record { of = LongCell; text = "8\t\t\t\tbad row\ta cell of more than 4,096 bytes\n" }
    ∷ []

pub all-rows : map (λ (e : RowExample). bad_row_line 8 e.of) rows ≡ map (λ (e : RowExample). ascii e.text) rows
unfolding bad_row_line finding escaped row_words fault_words capped decimal width digit_count count pick
all-rows = refl

-- ---- the end

pub record SummaryExample : Type 0 where
  pub rows : ℕ
  pub strict : ℕ
  pub otherwise : ℕ
  pub refused : ℕ
  pub bad : ℕ
  pub text : String

abbrev pub summaries : List SummaryExample
summaries =
    record { rows = 0; strict = 0; otherwise = 0; refused = 0; bad = 0; text = "rows 0, dates 0, strict 0, read otherwise 0, refused 0, bad rows 0\nsafe to sign\n" }
    ∷ record { rows = 12; strict = 10; otherwise = 0; refused = 0; bad = 0; text = "rows 12, dates 10, strict 10, read otherwise 0, refused 0, bad rows 0\nsafe to sign\n" }
    ∷ record { rows = 12; strict = 10; otherwise = 1; refused = 0; bad = 0; text = "rows 12, dates 11, strict 10, read otherwise 1, refused 0, bad rows 0\ndo not sign: 1 finding\n" }
    ∷ record { rows = 12; strict = 10; otherwise = 0; refused = 1; bad = 0; text = "rows 12, dates 11, strict 10, read otherwise 0, refused 1, bad rows 0\ndo not sign: 1 finding\n" }
    ∷ record { rows = 12; strict = 7; otherwise = 2; refused = 3; bad = 4; text = "rows 12, dates 12, strict 7, read otherwise 2, refused 3, bad rows 4\ndo not sign: 9 findings\n" }
    ∷ record { rows = 4294967295; strict = 4294967295; otherwise = 4294967295; refused = 4294967295; bad = 4294967295; text = "rows 4294967295, dates 12884901885, strict 4294967295, read otherwise 4294967295, refused 4294967295, bad rows 4294967295\ndo not sign: 12884901885 findings\n" }
    ∷ []

pub all-summaries : map (λ (e : SummaryExample). summary e.rows e.strict e.otherwise e.refused e.bad) summaries ≡ map (λ (e : SummaryExample). ascii e.text) summaries
unfolding summary signing decimal width digit_count count pick
all-summaries = refl

pub record HeaderExample : Type 0 where
  pub of : Unusable
  pub text : String

abbrev pub headers : List HeaderExample
headers =
    record { of = Empty; text = "could not be read: the file is empty\n" }
    ∷ record { of = NoColumn; text = "could not be read: the header has no column to check\n" }
    ∷ record { of = Twice; text = "could not be read: the header has a column twice\n" }
    ∷ record { of = Returns; text = "could not be read: its lines end in carriage returns alone\n" }
    ∷ record { of = NoRow (Broken (NeverClosed 4)); text = "could not be read: the header is no row: a quote that is never closed, at 4\n" }
    ∷ record { of = NoRow (BadRowUtf8 0); text = "could not be read: the header is no row: bytes that are not UTF-8, at 0\n" }
    ∷ record { of = NoRow LongCell; text = "could not be read: the header is no row: a cell of more than 4,096 bytes\n" }
    ∷ []

pub all-headers : map (λ (e : HeaderExample). unread_line e.of) headers ≡ map (λ (e : HeaderExample). ascii e.text) headers
unfolding unread_line unusable_words row_words fault_words capped decimal width digit_count count pick
all-headers = refl

-- ---- sorts

pub parts : cut_at 10 (ascii "a\n\nb") ≡ ascii "a" ∷ [] ∷ ascii "b" ∷ []
unfolding cut_at before_parts
parts = refl

-- two lines of a report, and what stands at its end; a word counts as a sort in the fifth field alone
abbrev said : List ℕ
said = ascii "2\tbad row\tdate\t\"49\"\tnot strict\trefused\n3\t\t\t\tbad row\tmore than 256 cells\nrows 2, dates 1, strict 0, read otherwise 1, refused 0, bad rows 1\ndo not sign: 2 findings\n"

pub sorts : (lines_of_sort (ascii "not strict") said ≡ 1) × (lines_of_sort (ascii "short year") said ≡ 0) × (lines_of_sort (ascii "refused") said ≡ 0) × (lines_of_sort (ascii "bad row") said ≡ 1)
unfolding lines_of_sort count_sort line_sort is_same cut_at before_parts pick
sorts = (refl, refl, refl, refl)
