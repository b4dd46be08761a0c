-- Texts and fields of some dates, as the ported code and the writer of level one have them: one theorem over one list each. Assumes nothing.
use mathlib.Core.Path.{◌≡◌, refl}
use mathlib.Core.Bool.{true, false}
use mathlib.Core.List.{List, [], ◌∷◌, map}
use Prim.Native.Nat.{ℕ}
use Prim.Native.String.{String}
use lib.Dec.{eqb}
use lib.IntN.{ℤ, pos, negsuc}
use Rattle.chars.specs.Pick.{pick}
use Rattle.dates.specs.declared.Month.{Month}
use Rattle.dates.specs.declared.Season.{Season}
use Rattle.dates.specs.declared.Season.TheVariants.{Autumn, Spring, Summer, Winter}
use Rattle.refusals.specs.declared.Refusal.{Refusal}
use Rattle.std.specs.Prelude.{Option, Some, None, Result, Ok, Err}
use Rattle.dates.specs.declared.Datetime.{Datetime}
use Rattle.dates.specs.declared.DateValue.TheVariants.{At, After, Before, Between}
use Rattle.dates.specs.declared.Date.{Date}
use Rattle.dates.specs.Value.{month, day, datetime, season_of, date}
use Rattle.dates.specs.Time.{time}
use Rattle.chars.specs.Ascii.{ascii}
use Rattle.refusals.specs.declared.Kind.TheVariants.{RustPanics, NoRoom, HasSeason}
use Rattle.refusals.specs.Refusal.{file_span, refusal}
use Rattle.puts.specs.Answers.{measured, decided, answer, left}
use Rattle.writer.specs.Answers.{date_measured, date_answer, date_afterwards}
use Rattle.puts.specs.Numbers.{count, digit_count, width, decimal}
use Rattle.writer.specs.Texts.{minus, year_text, written_month, written_day, day_parts, month_parts, parts_of, part_text, hyphen_part, parts_text, datetime_text, value_text, date_text, too_large, end_panics, value_panics, panics}
use Rattle.puts.specs.Marks.{mark_text}
use Rattle.writer.specs.Fields.{prefix, line, part_lines, end_lines, value_lines, fields_text}
use Rattle.writer.specs.Level.{long_sign, behind_text, level_end, level_value, level_text, level_end_panics, level_value_panics, level_panics}

-- a date, and what is written
pub record Example : Type 0 where
  pub of : Date
  pub text : String

abbrev pub year : ℤ → Datetime
year y = datetime y None None None

abbrev pub texts : List Example
texts =
    record { of = date (At (year (pos 2049))) true false; text = "2049?" }
    ∷ record { of = date (At (year (pos 0))) false false; text = "0000" }
    ∷ record { of = date (At (year (negsuc 998))) false true; text = "-0999~" }
    ∷ record { of = date (At (year (negsuc 12344))) true true; text = "-12345%" }
    ∷ record { of = date (At (datetime (pos 49) None (day 3) None)) false false; text = "0049" }
    ∷ record { of = date (At (datetime (pos 2000) (month 0) (day 0) (Some (time 1 2 3 None)))) false false; text = "2000-01-01" }
    ∷ record { of = date (After (datetime (pos 1999) (month 11) None None)) false false; text = "1999-12/.." }
    ∷ record { of = date (Before (datetime (pos 2000) (month 1) (day 28) None)) false false; text = "../2000-02-29" }
    ∷ record { of = date (Between (year (pos 1900)) (datetime (pos 12345) (month 98) (day 254) None)) false false; text = "1900/12345-99-255" }
    ∷ record { of = date (At (year (pos 1))) false false; text = "0001" }
    ∷ record { of = date (At (year (pos 999))) false false; text = "0999" }
    ∷ record { of = date (At (year (pos 1000))) false false; text = "1000" }
    ∷ record { of = date (At (year (pos 9999))) false false; text = "9999" }
    ∷ record { of = date (At (year (pos 10000))) false false; text = "10000" }
    ∷ record { of = date (At (year (pos 2147483647))) false false; text = "2147483647" }
    ∷ record { of = date (At (year (negsuc 0))) false false; text = "-0001" }
    ∷ record { of = date (At (year (negsuc 9998))) false false; text = "-9999" }
    ∷ record { of = date (At (year (negsuc 9999))) false false; text = "-10000" }
    ∷ record { of = date (At (year (negsuc 2147483647))) false false; text = "-2147483648" }
    ∷ record { of = date (At (datetime (pos 2000) (month 8) None None)) false false; text = "2000-09" }
    ∷ record { of = date (At (datetime (pos 2000) (month 9) None None)) false false; text = "2000-10" }
    ∷ record { of = date (At (datetime (pos 2000) (month 11) None None)) false false; text = "2000-12" }
    ∷ record { of = date (At (datetime (pos 2000) (month 98) None None)) false false; text = "2000-99" }
    ∷ record { of = date (At (datetime (pos 2000) (month 99) None None)) false false; text = "2000-100" }
    ∷ record { of = date (At (datetime (pos 2000) (month 254) None None)) false false; text = "2000-255" }
    ∷ record { of = date (At (datetime (pos 2000) (month 0) (day 8) None)) false false; text = "2000-01-09" }
    ∷ record { of = date (At (datetime (pos 2000) (month 0) (day 9) None)) false false; text = "2000-01-10" }
    ∷ record { of = date (At (datetime (pos 2000) (month 0) (day 30) None)) false false; text = "2000-01-31" }
    ∷ record { of = date (At (datetime (pos 2000) (month 0) (day 98) None)) false false; text = "2000-01-99" }
    ∷ record { of = date (At (datetime (pos 2000) (month 0) (day 99) None)) false false; text = "2000-01-100" }
    ∷ record { of = date (At (datetime (pos 2000) (month 0) (day 254) None)) false false; text = "2000-01-255" }
    ∷ record { of = date (At (datetime (pos 2000) (month 0) None None)) false false; text = "2000-01" }
    ∷ record { of = date (At (datetime (pos 2000) (month 0) None None)) true false; text = "2000-01?" }
    ∷ record { of = date (At (datetime (pos 2000) (month 0) None None)) false true; text = "2000-01~" }
    ∷ record { of = date (At (datetime (pos 2000) (month 0) None None)) true true; text = "2000-01%" }
    ∷ record { of = date (After (datetime (pos 2000) (month 0) None None)) false false; text = "2000-01/.." }
    ∷ record { of = date (After (datetime (pos 2000) (month 0) None None)) true false; text = "2000-01/..?" }
    ∷ record { of = date (After (datetime (pos 2000) (month 0) None None)) false true; text = "2000-01/..~" }
    ∷ record { of = date (After (datetime (pos 2000) (month 0) None None)) true true; text = "2000-01/..%" }
    ∷ record { of = date (Before (datetime (pos 2000) (month 0) None None)) false false; text = "../2000-01" }
    ∷ record { of = date (Before (datetime (pos 2000) (month 0) None None)) true false; text = "../2000-01?" }
    ∷ record { of = date (Before (datetime (pos 2000) (month 0) None None)) false true; text = "../2000-01~" }
    ∷ record { of = date (Before (datetime (pos 2000) (month 0) None None)) true true; text = "../2000-01%" }
    ∷ record { of = date (Between (datetime (pos 2000) (month 0) None None) (datetime (negsuc 0) (month 1) (day 2) None)) false false; text = "2000-01/-0001-02-03" }
    ∷ record { of = date (Between (datetime (pos 2000) (month 0) None None) (datetime (negsuc 0) (month 1) (day 2) None)) true false; text = "2000-01/-0001-02-03?" }
    ∷ record { of = date (Between (datetime (pos 2000) (month 0) None None) (datetime (negsuc 0) (month 1) (day 2) None)) false true; text = "2000-01/-0001-02-03~" }
    ∷ record { of = date (Between (datetime (pos 2000) (month 0) None None) (datetime (negsuc 0) (month 1) (day 2) None)) true true; text = "2000-01/-0001-02-03%" }
    ∷ []

pub text-examples : map (λ (e : Example). date_text e.of) texts ≡ map (λ (e : Example). ascii e.text) texts
unfolding date_text value_text datetime_text year_text minus decimal width digit_count count parts_of month_parts day_parts written_month written_day parts_text hyphen_part part_text mark_text pick
text-examples = refl

-- the line feeds are written as semicolons here
abbrev pub lines : List ℕ → List ℕ
lines = map (λ (c : ℕ). pick (eqb c 59) 10 c)

abbrev pub fields : List Example
fields =
    record { of = date (After (datetime (negsuc 4) None (day 3) None)) true true; text = "year=-0005;" }
    ∷ record { of = date (Between (datetime (pos 2000) (month 0) None None) (datetime (pos 2001) (month 11) (day 30) None)) false false; text = "year=2000;month=01;endyear=2001;endmonth=12;endday=31;" }
    ∷ record { of = date (At (year (pos 2000))) false false; text = "year=2000;" }
    ∷ record { of = date (At (datetime (pos 2000) (month 0) (day 0) None)) true false; text = "year=2000;month=01;day=01;" }
    ∷ record { of = date (At (datetime (pos 2000) (month 11) None None)) false true; text = "year=2000;month=12;" }
    ∷ record { of = date (After (datetime (negsuc 9999) (month 98) (day 254) None)) false false; text = "year=-10000;month=99;day=255;" }
    ∷ record { of = date (Before (datetime (pos 0) (month 8) (day 9) None)) true true; text = "year=0000;month=09;day=10;" }
    ∷ record { of = date (Between (year (pos 1999)) (year (pos 2000))) false false; text = "year=1999;endyear=2000;" }
    ∷ record { of = date (Between (datetime (pos 1999) (month 0) (day 1) None) (datetime (pos 12345) None (day 3) None)) true false; text = "year=1999;month=01;day=02;endyear=12345;" }
    ∷ record { of = date (Between (datetime (pos 1999) None (day 3) None) (datetime (pos 2000) (month 1) None None)) false false; text = "year=1999;endyear=2000;endmonth=02;" }
    ∷ []

pub field-examples : map (λ (e : Example). fields_text e.of) fields ≡ map (λ (e : Example). lines (ascii e.text)) fields
unfolding fields_text value_lines end_lines line prefix part_lines year_text minus decimal width digit_count count parts_of month_parts day_parts written_month written_day part_text pick
field-examples = refl

-- an end with everything
abbrev pub full : ℤ → Option Month → Option Season → Datetime
full y m s = record { year = y; month = m; day = day 254; time = Some (time 1 2 3 None); season = s }

-- by the writer of level one
abbrev pub levels : List Example
levels =
    record { of = date (At (season_of (pos 2000) (Some Spring))) false false; text = "2000-21" }
    ∷ record { of = date (At (season_of (negsuc 43) (Some Winter))) false false; text = "-0044-24" }
    ∷ record { of = date (At (year (pos 12345))) false false; text = "Y12345" }
    ∷ record { of = date (At (year (negsuc 123456788))) false true; text = "Y-123456789~" }
    ∷ record { of = date (At (year (pos 9999))) false false; text = "9999" }
    ∷ record { of = date (At (year (negsuc 9998))) false false; text = "-9999" }
    ∷ record { of = date (At (year (pos 10000))) false false; text = "Y10000" }
    ∷ record { of = date (At (year (negsuc 9999))) false false; text = "Y-10000" }
    ∷ record { of = date (At (full (pos 2000) (month 255) (Some Summer))) false false; text = "2000-22" }
    ∷ record { of = date (At (full (pos 2000) (month 0) None)) false false; text = "2000-01-255" }
    ∷ record { of = date (At (full (pos 12345) None (Some Autumn))) false false; text = "Y12345-23" }
    ∷ record { of = date (Between (season_of (pos 1999) (Some Autumn)) (season_of (pos 2000) (Some Winter))) true false; text = "1999-23/2000-24?" }
    ∷ record { of = date (After (year (negsuc 12344))) false false; text = "Y-12345/.." }
    ∷ record { of = date (Before (season_of (pos 0) (Some Summer))) true true; text = "../0000-22%" }
    ∷ record { of = date (At (year (pos 0))) false false; text = "0000" }
    ∷ record { of = date (At (datetime (pos 2000) (month 0) (day 0) None)) false false; text = "2000-01-01" }
    ∷ record { of = date (At (season_of (pos 2000) (Some Summer))) true false; text = "2000-22?" }
    ∷ record { of = date (At (season_of (pos 2000) (Some Autumn))) false true; text = "2000-23~" }
    ∷ record { of = date (After (season_of (pos 2000) (Some Winter))) false false; text = "2000-24/.." }
    ∷ record { of = date (Before (year (pos 99999))) false false; text = "../Y99999" }
    ∷ record { of = date (Between (year (negsuc 99998)) (year (pos 2147483647))) true true; text = "Y-99999/Y2147483647%" }
    ∷ record { of = date (Between (datetime (pos 2000) (month 0) None None) (season_of (negsuc 9999) (Some Spring))) false false; text = "2000-01/Y-10000-21" }
    ∷ record { of = date (At (datetime (pos 12345) (month 0) (day 0) None)) false false; text = "Y12345-01-01" }
    ∷ []

pub level-examples : map (λ (e : Example). level_text e.of) levels ≡ map (λ (e : Example). ascii e.text) levels
unfolding level_text level_value level_end long_sign behind_text year_text minus decimal width digit_count count parts_of month_parts day_parts written_month written_day parts_text hyphen_part part_text mark_text pick
level-examples = refl

-- each is written
pub levels-written : map (λ (e : Example). level_panics e.of) levels ≡ map (λ (e : Example). false) levels
unfolding level_panics level_value_panics level_end_panics end_panics too_large parts_of month_parts day_parts pick
levels-written = refl

-- a date, so much room, and the answer
pub record Answer : Type 0 where
  pub of : Date
  pub room : ℕ
  pub says : Result ℕ Refusal

-- of the text: HasSeason comes first, then RustPanics, then NoRoom
abbrev pub text-answers : List Answer
text-answers =
    record { of = date (At (year (pos 2000))) false false; room = 4; says = Ok 4 }
    ∷ record { of = date (At (year (pos 2000))) false false; room = 3; says = Err (record { kind = NoRoom; place = file_span 0 0 }) }
    ∷ record { of = date (At (year (pos 2000))) false false; room = 40; says = Ok 4 }
    ∷ record { of = date (At (datetime (pos 2000) (month 255) None None)) false false; room = 40; says = Err (record { kind = RustPanics; place = file_span 0 0 }) }
    ∷ record { of = date (At (datetime (pos 2000) (month 255) None None)) false false; room = 0; says = Err (record { kind = RustPanics; place = file_span 0 0 }) }
    ∷ record { of = date (At (datetime (pos 2000) (month 0) (day 255) None)) false false; room = 40; says = Err (record { kind = RustPanics; place = file_span 0 0 }) }
    ∷ record { of = date (At (datetime (pos 2000) None (day 255) None)) false false; room = 4; says = Ok 4 }
    ∷ record { of = date (After (datetime (pos 2000) (month 255) None None)) false false; room = 40; says = Err (record { kind = RustPanics; place = file_span 0 0 }) }
    ∷ record { of = date (Before (datetime (pos 2000) (month 0) (day 255) None)) false false; room = 40; says = Err (record { kind = RustPanics; place = file_span 0 0 }) }
    ∷ record { of = date (Between (year (pos 2000)) (datetime (pos 2000) (month 255) None None)) false false; room = 40; says = Err (record { kind = RustPanics; place = file_span 0 0 }) }
    ∷ record { of = date (Between (datetime (pos 2000) (month 0) (day 255) None) (year (pos 2000))) false false; room = 40; says = Err (record { kind = RustPanics; place = file_span 0 0 }) }
    ∷ record { of = date (At (season_of (pos 2000) (Some Spring))) false false; room = 40; says = Err (record { kind = HasSeason; place = file_span 0 0 }) }
    ∷ record { of = date (At (season_of (pos 2000) (Some Spring))) false false; room = 0; says = Err (record { kind = HasSeason; place = file_span 0 0 }) }
    ∷ record { of = date (At (full (pos 2000) (month 255) (Some Winter))) false false; room = 40; says = Err (record { kind = HasSeason; place = file_span 0 0 }) }
    ∷ record { of = date (After (season_of (pos 2000) (Some Spring))) false false; room = 40; says = Err (record { kind = HasSeason; place = file_span 0 0 }) }
    ∷ record { of = date (Before (season_of (pos 2000) (Some Spring))) false false; room = 40; says = Err (record { kind = HasSeason; place = file_span 0 0 }) }
    ∷ record { of = date (Between (datetime (pos 2000) (month 255) None None) (season_of (pos 2000) (Some Spring))) false false; room = 40; says = Err (record { kind = HasSeason; place = file_span 0 0 }) }
    ∷ record { of = date (Between (season_of (pos 2000) (Some Spring)) (datetime (pos 2000) (month 255) None None)) false false; room = 0; says = Err (record { kind = HasSeason; place = file_span 0 0 }) }
    ∷ record { of = date (Between (year (pos 2000)) (year (pos 2001))) false false; room = 9; says = Ok 9 }
    ∷ record { of = date (Between (year (pos 2000)) (year (pos 2001))) false false; room = 8; says = Err (record { kind = NoRoom; place = file_span 0 0 }) }
    ∷ []

pub texts-answered : map (λ (e : Answer). date_answer e.of (date_text e.of) e.room) text-answers ≡ map (λ (e : Answer). e.says) text-answers
unfolding date_answer date_measured measured decided panics value_panics end_panics too_large refusal date_text value_text datetime_text year_text minus decimal width digit_count count parts_of month_parts day_parts written_month written_day parts_text hyphen_part part_text mark_text pick
texts-answered = refl

-- of the fields
abbrev pub field-answers : List Answer
field-answers =
    record { of = date (At (year (pos 2000))) false false; room = 10; says = Ok 10 }
    ∷ record { of = date (At (year (pos 2000))) false false; room = 9; says = Err (record { kind = NoRoom; place = file_span 0 0 }) }
    ∷ record { of = date (At (datetime (pos 2000) (month 255) None None)) false false; room = 0; says = Err (record { kind = RustPanics; place = file_span 0 0 }) }
    ∷ record { of = date (Between (datetime (pos 2000) (month 255) None None) (season_of (pos 2000) (Some Spring))) false false; room = 0; says = Err (record { kind = HasSeason; place = file_span 0 0 }) }
    ∷ record { of = date (At (datetime (pos 2000) None (day 255) None)) false false; room = 10; says = Ok 10 }
    ∷ []

pub fields-answered : map (λ (e : Answer). date_answer e.of (fields_text e.of) e.room) field-answers ≡ map (λ (e : Answer). e.says) field-answers
unfolding date_answer date_measured measured decided panics value_panics end_panics too_large refusal fields_text value_lines end_lines line prefix part_lines year_text minus decimal width digit_count count parts_of month_parts day_parts written_month written_day part_text pick
fields-answered = refl

-- by the writer of level one, which knows seasons
abbrev pub level-answers : List Answer
level-answers =
    record { of = date (At (season_of (pos 2000) (Some Spring))) false false; room = 7; says = Ok 7 }
    ∷ record { of = date (At (season_of (pos 2000) (Some Spring))) false false; room = 6; says = Err (record { kind = NoRoom; place = file_span 0 0 }) }
    ∷ record { of = date (At (full (pos 2000) (month 255) (Some Winter))) false false; room = 7; says = Ok 7 }
    ∷ record { of = date (At (datetime (pos 2000) (month 255) None None)) false false; room = 42; says = Err (record { kind = RustPanics; place = file_span 0 0 }) }
    ∷ record { of = date (At (datetime (pos 2000) (month 0) (day 255) None)) false false; room = 0; says = Err (record { kind = RustPanics; place = file_span 0 0 }) }
    ∷ record { of = date (Between (season_of (pos 2000) (Some Spring)) (datetime (pos 2000) (month 255) None None)) false false; room = 42; says = Err (record { kind = RustPanics; place = file_span 0 0 }) }
    ∷ record { of = date (At (datetime (pos 2000) None (day 255) None)) false false; room = 4; says = Ok 4 }
    ∷ record { of = date (At (year (pos 10000))) false false; room = 6; says = Ok 6 }
    ∷ record { of = date (At (year (pos 10000))) false false; room = 5; says = Err (record { kind = NoRoom; place = file_span 0 0 }) }
    ∷ []

pub levels-answered : map (λ (e : Answer). answer (level_panics e.of) (level_text e.of) e.room) level-answers ≡ map (λ (e : Answer). e.says) level-answers
unfolding answer measured decided level_panics level_value_panics level_end_panics end_panics too_large refusal level_text level_value level_end long_sign behind_text year_text minus decimal width digit_count count parts_of month_parts day_parts written_month written_day parts_text hyphen_part part_text mark_text pick
levels-answered = refl

-- the buffer afterwards: what is behind the text stays, and a refusal stores nothing
pub buffers-left : date_afterwards (date (At (year (pos 2000))) true false) (ascii "2000?") (ascii ".......") ∷ date_afterwards (date (At (year (pos 2000))) true false) (ascii "2000?") (ascii "....")
    ∷ date_afterwards (date (At (season_of (pos 2000) (Some Spring))) true false) (ascii "2000?") (ascii ".......") ∷ date_afterwards (date (At (datetime (pos 2000) (month 255) None None)) true false) (ascii "2000?") (ascii ".......") ∷ []
    ≡ ascii "2000?.." ∷ ascii "...." ∷ ascii "......." ∷ ascii "......." ∷ []
unfolding date_afterwards left date_answer date_measured measured decided panics value_panics end_panics too_large parts_of month_parts day_parts pick
buffers-left = refl
