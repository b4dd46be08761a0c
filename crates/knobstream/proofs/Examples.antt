-- Answers as they are stored, in numbers: eight bytes a line, of which the first two lines are the place, the next four the Datetimes.
-- Assumes nothing.
use mathlib.Core.Path.{◌≡◌, refl}
use mathlib.Core.Bool.{true, false}
use mathlib.Core.List.{[], ◌∷◌, flat_map}
use lib.IntN.{pos, negsuc}
use Rattle.chars.specs.Pick.{pick}
use Rattle.refusals.specs.declared.Kind.TheVariants.{DayOutOfRange}
use Rattle.refusals.specs.Refusal.{file_span, refusal}
use Rattle.dates.specs.declared.Season.TheVariants.{Spring}
use Rattle.std.specs.Prelude.{Some, None, Ok, Err}
use Rattle.dates.specs.declared.TimeOffset.TheVariants.{Utc, Offset}
use Rattle.dates.specs.declared.Datetime.{Datetime}
use Rattle.dates.specs.declared.DateValue.TheVariants.{At, Between}
use Rattle.dates.specs.Time.{time}
use Rattle.dates.specs.Value.{month, day, datetime, season_of, date}
use Rattle.codes.specs.Words.{twos}
use Rattle.knobstream.specs.Plain.{words, read}
use Rattle.knobstream.specs.Layout.{to_bytes, in_memory}

-- 2049, uncertain: the year is 0x801
pub uncertain-year : in_memory (words (read (Ok (date (At (datetime (pos 2049) None None None)) true false))))
    ≡ 0 ∷ 0 ∷ 0 ∷ 0 ∷ 0 ∷ 0 ∷ 0 ∷ 0
    ∷ 0 ∷ 0 ∷ 0 ∷ 0 ∷ 0 ∷ 0 ∷ 0 ∷ 0
    ∷ 0x01 ∷ 0x08 ∷ 0 ∷ 0 ∷ 0 ∷ 0 ∷ 0 ∷ 0
    ∷ 0 ∷ 0 ∷ 0 ∷ 0 ∷ 0 ∷ 0 ∷ 0 ∷ 0
    ∷ 0 ∷ 0 ∷ 0 ∷ 0 ∷ 0 ∷ 0 ∷ 0 ∷ 0
    ∷ 0 ∷ 0 ∷ 0 ∷ 0 ∷ 0 ∷ 0 ∷ 0 ∷ 0
    ∷ 0 ∷ 1 ∷ 0 ∷ 0 ∷ 0 ∷ 0 ∷ 0 ∷ 0 ∷ []
unfolding flat_map to_bytes twos
uncertain-year = refl

-- 31 December of the year -1, at 23:59:58 and 5:30 ahead of UTC
abbrev last-of-year : Datetime
last-of-year = datetime (negsuc 0) (month 11) (day 30) (Some (time 23 59 58 (Some (Offset true 5 30))))

-- 29 February 2000, at 0:00:01 in UTC: the year is 0x7D0
abbrev leap-day : Datetime
leap-day = datetime (pos 2000) (month 1) (day 28) (Some (time 0 0 1 (Some Utc)))

-- the range from one to the other, approximate
pub full-range : in_memory (words (read (Ok (date (Between last-of-year leap-day) false true))))
    ≡ 0 ∷ 0 ∷ 0 ∷ 0 ∷ 0 ∷ 0 ∷ 0 ∷ 0
    ∷ 0 ∷ 0 ∷ 0 ∷ 0 ∷ 0 ∷ 0 ∷ 0 ∷ 0
    ∷ 0xFF ∷ 0xFF ∷ 0xFF ∷ 0xFF ∷ 1 ∷ 11 ∷ 1 ∷ 30
    ∷ 1 ∷ 23 ∷ 59 ∷ 58 ∷ 2 ∷ 5 ∷ 30 ∷ 0
    ∷ 0xD0 ∷ 0x07 ∷ 0 ∷ 0 ∷ 1 ∷ 1 ∷ 1 ∷ 28
    ∷ 1 ∷ 0 ∷ 0 ∷ 1 ∷ 1 ∷ 0 ∷ 0 ∷ 0
    ∷ 3 ∷ 0 ∷ 1 ∷ 0 ∷ 0 ∷ 0 ∷ 0 ∷ 0 ∷ []
unfolding flat_map to_bytes twos
full-range = refl

-- the spring of 2000: the last byte of its Datetime is 21, 0x15
pub spring : in_memory (words (read (Ok (date (At (season_of (pos 2000) (Some Spring))) false false))))
    ≡ 0 ∷ 0 ∷ 0 ∷ 0 ∷ 0 ∷ 0 ∷ 0 ∷ 0
    ∷ 0 ∷ 0 ∷ 0 ∷ 0 ∷ 0 ∷ 0 ∷ 0 ∷ 0
    ∷ 0xD0 ∷ 0x07 ∷ 0 ∷ 0 ∷ 0 ∷ 0 ∷ 0 ∷ 0
    ∷ 0 ∷ 0 ∷ 0 ∷ 0 ∷ 0 ∷ 0 ∷ 0 ∷ 0x15
    ∷ 0 ∷ 0 ∷ 0 ∷ 0 ∷ 0 ∷ 0 ∷ 0 ∷ 0
    ∷ 0 ∷ 0 ∷ 0 ∷ 0 ∷ 0 ∷ 0 ∷ 0 ∷ 0
    ∷ 0 ∷ 0 ∷ 0 ∷ 0 ∷ 0 ∷ 0 ∷ 0 ∷ 0 ∷ []
unfolding flat_map to_bytes twos
spring = refl

-- no such day, from byte 105 to byte 115 of the file
pub refused-day : in_memory (words (read (Err (refusal DayOutOfRange (file_span 105 115)))))
    ≡ 105 ∷ 0 ∷ 0 ∷ 0 ∷ 0 ∷ 0 ∷ 0 ∷ 0
    ∷ 115 ∷ 0 ∷ 0 ∷ 0 ∷ 0 ∷ 0 ∷ 0 ∷ 0
    ∷ 0 ∷ 0 ∷ 0 ∷ 0 ∷ 0 ∷ 0 ∷ 0 ∷ 0
    ∷ 0 ∷ 0 ∷ 0 ∷ 0 ∷ 0 ∷ 0 ∷ 0 ∷ 0
    ∷ 0 ∷ 0 ∷ 0 ∷ 0 ∷ 0 ∷ 0 ∷ 0 ∷ 0
    ∷ 0 ∷ 0 ∷ 0 ∷ 0 ∷ 0 ∷ 0 ∷ 0 ∷ 0
    ∷ 0 ∷ 0 ∷ 0 ∷ 0 ∷ 2 ∷ 0 ∷ 0 ∷ 0 ∷ []
unfolding flat_map to_bytes twos refusal pick
refused-day = refl
