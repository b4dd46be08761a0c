-- Texts of some dates with their times, and some that are nowhere: one theorem over one list each. Assumes nothing.
use mathlib.Core.Path.{◌≡◌, refl}
use mathlib.Core.Bool.{Bool, true, false}
use mathlib.Core.List.{List, [], ◌∷◌, map}
use Prim.Native.Nat.{ℕ}
use Prim.Native.String.{String}
use lib.IntN.{pos, negsuc}
use lib.ListN.{length}
use Rattle.chars.specs.Pick.{pick}
use Rattle.chars.specs.Ascii.{ascii}
use Rattle.refusals.specs.declared.Kind.{Kind}
use Rattle.refusals.specs.declared.Kind.TheVariants.{RustPanics, NoRoom, BadTime, HasSeason}
use Rattle.refusals.specs.Refusal.{file_span, refusal, number, nowhere}
use Rattle.dates.specs.declared.Season.TheVariants.{Spring, Winter}
use Rattle.dates.specs.declared.Time.{Time}
use Rattle.dates.specs.declared.TimeOffset.{TimeOffset}
use Rattle.std.specs.Prelude.{Option, Some, None, Ok, Err}
use Rattle.dates.specs.declared.TimeOffset.TheVariants.{Utc, Offset}
use Rattle.dates.specs.declared.Datetime.{Datetime}
use Rattle.dates.specs.declared.DateValue.TheVariants.{At, After, Before, Between}
use Rattle.dates.specs.declared.Date.{Date}
use Rattle.dates.specs.Time.{time, in_range}
use Rattle.dates.specs.Value.{month, day, datetime, season_of, date, from_datetime}
use Rattle.puts.specs.Answers.{decided, left}
use Rattle.puts.specs.Numbers.{count, digit_count, width, decimal}
use Rattle.writer.specs.Texts.{minus, year_text, written_month, written_day, day_parts, month_parts, parts_of, part_text, hyphen_part, parts_text, datetime_text, too_large, end_panics, value_panics, panics}
use Rattle.puts.specs.Marks.{mark_text}
use Rattle.timed.specs.Texts.{field, sign, offset_text, zone_text, clock_text, time_text, end_text, value_text, timed_text}
use Rattle.dates.specs.Clocks.{offset_in, zone_in, clock_in, day_beside_month, bad_time, has_bad_time}
use Rattle.timed.specs.Answers.{value_bad, plain_measured, timed_measured, timed_answer, timed_afterwards}

-- a date, and what is written
pub record Example : Type 0 where
  pub of : Date
  pub text : String

-- on 29 February 2000 at a time
abbrev pub at : ℕ → ℕ → ℕ → Option TimeOffset → Datetime
at h m s o = datetime (pos 2000) (month 1) (day 28) (Some (time h m s o))

-- hours and minutes ahead of UTC, or behind
abbrev pub offset : Bool → ℕ → ℕ → Option TimeOffset
offset positive h m = Some (Offset positive h m)

abbrev pub utc : Option TimeOffset
utc = Some Utc

abbrev pub texts : List Example
texts =
    record { of = from_datetime (at 1 2 3 None); text = "2000-02-29T01:02:03" }
    ∷ record { of = from_datetime (at 23 59 59 utc); text = "2000-02-29T23:59:59Z" }
    ∷ record { of = from_datetime (at 0 0 0 (offset true 0 0)); text = "2000-02-29T00:00:00+00:00" }
    ∷ record { of = from_datetime (at 0 0 0 (offset false 0 0)); text = "2000-02-29T00:00:00-00:00" }
    ∷ record { of = from_datetime (at 12 30 0 (offset true 23 59)); text = "2000-02-29T12:30:00+23:59" }
    ∷ record { of = from_datetime (at 12 30 0 (offset false 5 30)); text = "2000-02-29T12:30:00-05:30" }
    ∷ record { of = date (Between (at 20 15 0 utc) (at 21 45 30 None)) false false; text = "2000-02-29T20:15:00Z/2000-02-29T21:45:30" }
    ∷ record { of = date (After (at 20 15 0 (offset true 1 0))) true false; text = "2000-02-29T20:15:00+01:00/..?" }
    ∷ record { of = date (Before (at 20 15 0 None)) false true; text = "../2000-02-29T20:15:00~" }
    ∷ record { of = date (Between (datetime (pos 1999) None None None) (at 20 15 0 utc)) true true; text = "1999/2000-02-29T20:15:00Z%" }
    ∷ record { of = from_datetime (datetime (negsuc 43) (month 2) (day 14) (Some (time 9 0 0 None))); text = "-0044-03-15T09:00:00" }
    ∷ record { of = date (At (datetime (pos 2049) (month 0) None None)) true false; text = "2049-01?" }
    ∷ record { of = from_datetime (datetime (pos 12345) (month 98) (day 254) (Some (time 0 0 1 utc))); text = "12345-99-255T00:00:01Z" }
    ∷ record { of = date (At (at 0 0 0 (offset false 23 59))) false false; text = "2000-02-29T00:00:00-23:59" }
    ∷ record { of = date (At (at 9 10 59 (offset true 9 10))) false false; text = "2000-02-29T09:10:59+09:10" }
    ∷ record { of = date (At (at 1 2 3 utc)) false false; text = "2000-02-29T01:02:03Z" }
    ∷ record { of = date (At (at 1 2 3 utc)) true false; text = "2000-02-29T01:02:03Z?" }
    ∷ record { of = date (At (at 1 2 3 utc)) false true; text = "2000-02-29T01:02:03Z~" }
    ∷ record { of = date (At (at 1 2 3 utc)) true true; text = "2000-02-29T01:02:03Z%" }
    ∷ record { of = date (After (at 1 2 3 None)) false false; text = "2000-02-29T01:02:03/.." }
    ∷ record { of = date (After (at 1 2 3 None)) true false; text = "2000-02-29T01:02:03/..?" }
    ∷ record { of = date (After (at 1 2 3 None)) false true; text = "2000-02-29T01:02:03/..~" }
    ∷ record { of = date (After (at 1 2 3 None)) true true; text = "2000-02-29T01:02:03/..%" }
    ∷ record { of = date (Before (at 1 2 3 (offset false 1 0))) false false; text = "../2000-02-29T01:02:03-01:00" }
    ∷ record { of = date (Before (at 1 2 3 (offset false 1 0))) true false; text = "../2000-02-29T01:02:03-01:00?" }
    ∷ record { of = date (Before (at 1 2 3 (offset false 1 0))) false true; text = "../2000-02-29T01:02:03-01:00~" }
    ∷ record { of = date (Before (at 1 2 3 (offset false 1 0))) true true; text = "../2000-02-29T01:02:03-01:00%" }
    ∷ record { of = date (Between (at 1 2 3 utc) (at 4 5 6 utc)) false false; text = "2000-02-29T01:02:03Z/2000-02-29T04:05:06Z" }
    ∷ record { of = date (Between (at 1 2 3 utc) (at 4 5 6 utc)) true false; text = "2000-02-29T01:02:03Z/2000-02-29T04:05:06Z?" }
    ∷ record { of = date (Between (at 1 2 3 utc) (at 4 5 6 utc)) false true; text = "2000-02-29T01:02:03Z/2000-02-29T04:05:06Z~" }
    ∷ record { of = date (Between (at 1 2 3 utc) (at 4 5 6 utc)) true true; text = "2000-02-29T01:02:03Z/2000-02-29T04:05:06Z%" }
    ∷ record { of = date (Between (at 1 2 3 None) (datetime (negsuc 9999) (month 11) (day 30) None)) false false; text = "2000-02-29T01:02:03/-10000-12-31" }
    ∷ record { of = date (At (datetime (pos 2147483647) None (day 0) None)) false false; text = "2147483647" }
    ∷ []

pub text-examples : map (λ (e : Example). timed_text e.of) texts ≡ map (λ (e : Example). ascii e.text) texts
unfolding timed_text value_text end_text time_text clock_text zone_text offset_text sign field datetime_text year_text minus decimal width digit_count count parts_of month_parts day_parts written_month written_day parts_text hyphen_part part_text mark_text pick
text-examples = refl

-- 70 bytes are room for each
pub written-examples : map (λ (e : Example). timed_answer e.of 70) texts ≡ map (λ (e : Example). Ok (length (ascii e.text))) texts
unfolding timed_answer timed_measured plain_measured decided value_bad has_bad_time bad_time day_beside_month clock_in zone_in offset_in in_range timed_text value_text end_text time_text clock_text zone_text offset_text sign field datetime_text year_text minus decimal width digit_count count parts_of month_parts day_parts written_month written_day parts_text hyphen_part part_text mark_text panics value_panics end_panics too_large pick
written-examples = refl

-- a date, so much room, and why it is nowhere
pub record Refusal : Type 0 where
  pub of : Date
  pub room : ℕ
  pub kind : Kind

-- an end at which the Rust panics
abbrev pub panicking : Option Time → Datetime
panicking t = datetime (pos 2000) (month 1) (day 255) t

-- one with a season too
abbrev pub in_spring : Option Time → Datetime
in_spring t = record { year = pos 2000; month = month 1; day = day 255; time = t; season = Some Spring }

abbrev pub refusals : List Refusal
refusals =
    record { of = from_datetime (at 24 0 0 None); room = 70; kind = BadTime }
    ∷ record { of = from_datetime (at 0 60 0 None); room = 70; kind = BadTime }
    ∷ record { of = from_datetime (at 23 59 60 utc); room = 70; kind = BadTime }
    ∷ record { of = from_datetime (at 0 0 0 (offset true 24 0)); room = 70; kind = BadTime }
    ∷ record { of = from_datetime (at 0 0 0 (offset false 0 60)); room = 70; kind = BadTime }
    ∷ record { of = from_datetime (datetime (pos 2000) (month 1) None (Some (time 0 0 0 None))); room = 70; kind = BadTime }
    ∷ record { of = from_datetime (datetime (pos 2000) None None (Some (time 0 0 0 None))); room = 70; kind = BadTime }
    ∷ record { of = from_datetime (datetime (pos 2000) None (day 0) (Some (time 0 0 0 None))); room = 70; kind = BadTime }
    ∷ record { of = date (Between (at 0 0 0 utc) (at 24 0 0 utc)) false false; room = 70; kind = BadTime }
    ∷ record { of = from_datetime (at 24 0 0 None); room = 0; kind = BadTime }
    ∷ record { of = from_datetime (panicking (Some (time 24 0 0 None))); room = 70; kind = RustPanics }
    ∷ record { of = date (Between (at 24 0 0 None) (panicking None)) false false; room = 0; kind = RustPanics }
    ∷ record { of = from_datetime (at 1 2 3 None); room = 18; kind = NoRoom }
    ∷ record { of = from_datetime (at 1 2 3 None); room = 0; kind = NoRoom }
    ∷ record { of = from_datetime (at 0 0 0 (offset true 23 60)); room = 0; kind = BadTime }
    ∷ record { of = date (After (at 0 60 0 utc)) false false; room = 70; kind = BadTime }
    ∷ record { of = date (Before (at 0 0 60 utc)) false false; room = 70; kind = BadTime }
    ∷ record { of = date (Between (at 0 0 0 (offset false 24 0)) (at 0 0 0 utc)) false false; room = 70; kind = BadTime }
    ∷ record { of = date (After (panicking None)) false false; room = 70; kind = RustPanics }
    ∷ record { of = date (Before (panicking None)) false false; room = 0; kind = RustPanics }
    ∷ record { of = from_datetime (season_of (pos 2000) (Some Winter)); room = 70; kind = HasSeason }
    ∷ record { of = from_datetime (in_spring (Some (time 24 0 0 None))); room = 0; kind = HasSeason }
    ∷ record { of = date (Between (panicking None) (season_of (pos 2000) (Some Winter))) false false; room = 0; kind = HasSeason }
    ∷ record { of = date (Between (at 24 0 0 None) (season_of (pos 2000) (Some Winter))) false false; room = 70; kind = HasSeason }
    ∷ []

pub refused-examples : map (λ (e : Refusal). timed_answer e.of e.room) refusals ≡ map (λ (e : Refusal). Err (nowhere e.kind)) refusals
unfolding timed_answer timed_measured plain_measured decided value_bad has_bad_time bad_time day_beside_month clock_in zone_in offset_in in_range timed_text value_text end_text time_text clock_text zone_text offset_text sign field datetime_text year_text minus decimal width digit_count count parts_of month_parts day_parts written_month written_day parts_text hyphen_part part_text mark_text panics value_panics end_panics too_large pick
refused-examples = refl

-- a text that just fits is written, what is behind it stays, and a refusal stores nothing
pub just-fits : timed_answer (from_datetime (at 1 2 3 None)) 19 ≡ Ok 19
unfolding timed_answer timed_measured plain_measured decided value_bad has_bad_time bad_time day_beside_month clock_in zone_in offset_in in_range timed_text value_text end_text time_text clock_text zone_text offset_text sign field datetime_text year_text minus decimal width digit_count count parts_of month_parts day_parts written_month written_day parts_text hyphen_part part_text mark_text panics value_panics end_panics too_large pick
just-fits = refl

pub buffers-left : timed_afterwards (from_datetime (at 1 2 3 None)) (ascii ".....................") ∷ timed_afterwards (from_datetime (at 1 2 3 None)) (ascii "..................")
    ∷ timed_afterwards (from_datetime (at 24 0 0 None)) (ascii ".....................") ∷ timed_afterwards (from_datetime (panicking None)) (ascii ".....................") ∷ timed_afterwards (from_datetime (season_of (pos 2000) (Some Winter))) (ascii ".....................") ∷ []
    ≡ ascii "2000-02-29T01:02:03.." ∷ ascii ".................." ∷ ascii "....................." ∷ ascii "....................." ∷ ascii "....................." ∷ []
unfolding timed_afterwards left timed_answer timed_measured plain_measured decided value_bad has_bad_time bad_time day_beside_month clock_in zone_in offset_in in_range timed_text value_text end_text time_text clock_text zone_text offset_text sign field datetime_text year_text minus decimal width digit_count count parts_of month_parts day_parts written_month written_day parts_text hyphen_part part_text mark_text panics value_panics end_panics too_large pick
buffers-left = refl

-- the refusal's number is 22, and it has no place
pub refused_as : (number BadTime ≡ 22) × (nowhere BadTime ≡ record { kind = BadTime; place = file_span 0 0 })
unfolding refusal pick
refused_as = (refl, refl)
