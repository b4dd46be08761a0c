-- The worked examples of level one: what its reader says of a text, and the text that its writer makes of the Date, in one list. A text is one
-- Normal chunk whose span starts at 0. Assumes nothing.
use Prim.Native.Nat.{ℕ}
use Prim.Native.String.{String}
use mathlib.Core.Path.{◌≡◌, refl}
use mathlib.Core.Bool.{true, false}
use mathlib.Core.List.{List, [], ◌∷◌, map}
use lib.IntN.{ℤ, pos, negsuc}
use lib.ListN.{length}
use Rattle.chars.specs.Ascii.{ascii}
use Rattle.refusals.specs.declared.Kind.TheVariants.{NotLevelOne}
use Rattle.refusals.specs.Refusal.{file_span}
use Rattle.dates.specs.declared.Date.{Date}
use Rattle.dates.specs.declared.Season.TheVariants.{Autumn, Spring, Summer, Winter}
use Rattle.refusals.specs.declared.Refusal.{Refusal}
use Rattle.std.specs.Prelude.{Some, None, Result, Ok, Err}
use Rattle.dates.specs.declared.Datetime.{Datetime}
use Rattle.dates.specs.declared.DateValue.{DateValue}
use Rattle.dates.specs.declared.DateValue.TheVariants.{At, After, Before, Between}
use Rattle.dates.specs.Value.{datetime, season_of, date, month, day}
use Rattle.chars.specs.Ascii as chars_ascii
use Rattle.chars.specs.Classes as chars_classes
use Rattle.chars.specs.Pick as chars_pick
use Rattle.chars.specs.Utf8 as chars_utf8
use Rattle.refusals.specs.Refusal as refusals_refusal
use Rattle.chunks.specs.Chunks.{one_chunk}
use Rattle.chunks.specs.Characters as chunks_characters
use Rattle.chunks.specs.Check as chunks_check
use Rattle.chunks.specs.Chunks as chunks_chunks
use Rattle.chunks.specs.Format as chunks_format
use Rattle.dates.specs.Calendar as dates_calendar
use Rattle.strict.specs.Grammar as grammar
use Rattle.strict.specs.Matcher as matcher
use Rattle.chars.specs.Signs.{signed}
use Rattle.strict.specs.Level as levels
use Rattle.strict.specs.LevelMatcher as level_matcher
use Rattle.reading_laws.specs.Field as reader_field
use Rattle.puts.specs.Numbers as writer_numbers
use Rattle.writer.specs.Texts as writer_texts
use Rattle.puts.specs.Marks.{mark_text}
use Rattle.writer.specs.Level as writer_level

-- a text, as the reader of level one reads it
abbrev reads : String → Result Date Refusal
reads s = reader_field.parsed_level_one (ascii s) (one_chunk (ascii s) 0 (length (ascii s)))

-- a year alone, and the answer that is a refusal
abbrev year : ℤ → Datetime
year y = datetime y None None None

abbrev refused : Result Date Refusal
refused = Err (record { kind = NotLevelOne; place = file_span 0 0 })

-- what the writer of level one makes of an answer; nothing of a refusal
abbrev written : Result Date Refusal → List ℕ
written (Ok d) = writer_level.level_text d
written (Err e) = []

-- a text, what it says, and the text that is written for that
pub record Example : Type 0 where
  pub of : String
  pub says : Result Date Refusal
  pub back : String

abbrev unmarked : DateValue → Result Date Refusal
unmarked v = Ok (date v false false)

pub examples : List Example
examples =
    record { of = "2000-21"; says = unmarked (At (season_of (pos 2000) (Some Spring))); back = "2000-21" }
    ∷ record { of = "-0044-24"; says = unmarked (At (season_of (negsuc 43) (Some Winter))); back = "-0044-24" }
    ∷ record { of = "-0000-21"; says = unmarked (At (season_of (pos 0) (Some Spring))); back = "0000-21" }
    ∷ record { of = "2000-22/2001-23?"; says = Ok (date (Between (season_of (pos 2000) (Some Summer)) (season_of (pos 2001) (Some Autumn))) true false); back = "2000-22/2001-23?" }
    ∷ record { of = "Y12345"; says = unmarked (At (year (pos 12345))); back = "Y12345" }
    ∷ record { of = "Y-123456789~"; says = Ok (date (At (year (negsuc 123456788))) false true); back = "Y-123456789~" }
    ∷ record { of = "Y999999999%"; says = Ok (date (At (year (pos 999999999))) true true); back = "Y999999999%" }
    ∷ record { of = "Y10000"; says = unmarked (At (year (pos 10000))); back = "Y10000" }
    ∷ record { of = "Y12345/.."; says = unmarked (After (year (pos 12345))); back = "Y12345/.." }
    ∷ record { of = "../2000-24"; says = unmarked (Before (season_of (pos 2000) (Some Winter))); back = "../2000-24" }
    ∷ record { of = "2000-21/.."; says = unmarked (After (season_of (pos 2000) (Some Spring))); back = "2000-21/.." }
    ∷ record { of = "../Y-12345"; says = unmarked (Before (year (negsuc 12344))); back = "../Y-12345" }
    ∷ record { of = "Y12345/2000-24%"; says = Ok (date (Between (year (pos 12345)) (season_of (pos 2000) (Some Winter))) true true); back = "Y12345/2000-24%" }
    ∷ record { of = "2000-12/Y12345"; says = unmarked (Between (datetime (pos 2000) (month 11) None None) (year (pos 12345))); back = "2000-12/Y12345" }
    ∷ record { of = "2000-02-XX"; says = unmarked (Between (datetime (pos 2000) (month 1) (day 0) None) (datetime (pos 2000) (month 1) (day 28) None)); back = "2000-02-01/2000-02-29" }
    ∷ record { of = "9999"; says = unmarked (At (year (pos 9999))); back = "9999" }
    ∷ record { of = "2000-20"; says = refused; back = "" }
    ∷ record { of = "2000-25"; says = refused; back = "" }
    ∷ record { of = "2000-21-01"; says = refused; back = "" }
    ∷ record { of = "2000-21-XX"; says = refused; back = "" }
    ∷ record { of = "2000-21T10:00:00"; says = refused; back = "" }
    ∷ record { of = "Y1234"; says = refused; back = "" }
    ∷ record { of = "Y01234"; says = refused; back = "" }
    ∷ record { of = "Y1234567890"; says = refused; back = "" }
    ∷ record { of = "Y+12345"; says = refused; back = "" }
    ∷ record { of = "Y12345-01"; says = refused; back = "" }
    ∷ record { of = "Y12345T10:00:00"; says = refused; back = "" }
    ∷ record { of = "y12345"; says = refused; back = "" }
    ∷ record { of = "12345"; says = refused; back = "" }
    ∷ record { of = "49"; says = refused; back = "" }
    ∷ []

-- each text says this, and what it says is written so
pub examples-hold : (map (λ (e : Example). reads e.of) examples ≡ map (λ (e : Example). e.says) examples) × (map (λ (e : Example). written e.says) examples ≡ map (λ (e : Example). ascii e.back) examples)
unfolding examples chars_ascii.digit_of chars_classes.within chars_classes.is_admitted chars_classes.is_whitespace chars_classes.is_ascii_digit chars_classes.is_numeric chars_classes.is_ascii_alphabetic chars_classes.is_alphabetic chars_classes.is_alphanumeric chars_pick.pick chars_utf8.len_of chars_utf8.is_cont chars_utf8.is_surrogate chars_utf8.decode2 chars_utf8.decode3 chars_utf8.decode4 chars_utf8.decode chars_utf8.first chars_utf8.decode_at chars_utf8.len_d chars_utf8.encode chars_utf8.encode_all refusals_refusal.refusal chunks_characters.and_then chunks_characters.up_to chunks_characters.characters chunks_characters.codes_of chunks_characters.codes chunks_check.fault_in chunks_check.or_else chunks_check.fault_of chunks_check.checked chunks_chunks.chunks_of chunks_chunks.kinds_known chunks_chunks.lengths chunks_chunks.fits chunks_chunks.is_short chunks_format.is_break chunks_format.one_out chunks_format.normal chunks_format.last_white chunks_format.chunk_out chunks_format.chunk_flag chunks_format.chunks_out chunks_format.formatted dates_calendar.multiple dates_calendar.leap_year dates_calendar.february dates_calendar.month_lengths dates_calendar.month_length grammar.last_day matcher.two matcher.on matcher.on_four matcher.four matcher.counted matcher.field matcher.shift_at matcher.offset_at matcher.time_at matcher.behind_month matcher.behind_year signed matcher.dash_xx matcher.years matcher.months matcher.days matcher.unknown_years matcher.unknown_parts matcher.unknown matcher.marked matcher.ending matcher.is_open matcher.on_point matcher.behind_open matcher.behind_slash matcher.from_point matcher.of_points matcher.on_unknown matcher.text_of levels.season_at level_matcher.level_year level_matcher.level_at level_matcher.run level_matcher.value_from level_matcher.long_at level_matcher.level_point level_matcher.level reader_field.on_clean reader_field.leveled reader_field.parsed_level_one writer_numbers.count writer_numbers.digit_count writer_numbers.width writer_numbers.decimal writer_texts.minus writer_texts.year_text writer_texts.written_month writer_texts.written_day writer_texts.day_parts writer_texts.month_parts writer_texts.parts_of writer_texts.part_text writer_texts.hyphen_part writer_texts.parts_text mark_text writer_level.long_sign writer_level.behind_text writer_level.level_end writer_level.level_value writer_level.level_text
examples-hold = (refl, refl)
