-- The day: in the month field, or in a field of its own.
use Rattle.std.specs.Prelude.{ℕ, ◌-◌, Bool, ◌&&◌, List, ltb, leb, eqb, length, Option, Some, None, Result, Ok, Err}
use Rattle.chars.specs.Pick.{pick}
use Rattle.scanner.specs.declared.Class.TheVariants.{PlainWhitespace, Separator, AsciiDigit}
use Rattle.scanner.specs.Scan.{eat_while, part}
use Rattle.refusals.specs.declared.Kind.{Kind}
use Rattle.refusals.specs.declared.Kind.TheVariants.{DayOutOfRange, InvalidNumber, MissingNumber}
use Rattle.refusals.specs.declared.FileSpan.{FileSpan}
use Rattle.refusals.specs.Refusal.{refusal}
use Rattle.refusals.specs.Offset.{text_refusal, panics}
use Rattle.dates.specs.declared.Day.{Day}
use Rattle.refusals.specs.declared.Refusal.{Refusal}
use Rattle.refusals.specs.declared.TextRefusal.{TextRefusal}
use Rattle.dates.specs.Value.{day}
use Rattle.numbers.specs.Trim.{trim}
use Rattle.numbers.specs.Parse.{parse}

-- a day of some month is 1 to 31: the month's length is not looked at
unfoldable pub is_day : ℕ → Bool
is_day d = leb 1 d && leb d 31

-- the number that digits from a place to another are, as a stored day; above 255 the ported code panics
unfoldable pub day_of : ℕ → ℕ → Option ℕ → Result (Option Day) TextRefusal
day_of start end (Some d) = pick (is_day d) (Ok (day (d - 1))) (Err (text_refusal DayOutOfRange start end))
day_of start end None = Err panics

-- the digits from a place to another
unfoldable pub day_digits : List ℕ → ℕ → ℕ → Result (Option Day) TextRefusal
day_digits s start end = day_of start end (parse 255 (part s start end))

-- the digits of a day from a place to another, behind a run of hyphens and no-break spaces from `a` on: where there are no digits,
-- a run that is not empty lacks its number, and behind an empty one there is no day
unfoldable pub day_behind : List ℕ → ℕ → ℕ → ℕ → Result (Option Day) TextRefusal
day_behind s a start end =
    pick (eqb (length (part s start end)) 0)
    (pick (eqb a start) (Ok None) (Err (text_refusal MissingNumber start end)))
    (day_digits s start end)

-- the digits at a place
unfoldable pub day_at : List ℕ → ℕ → ℕ → Result (Option Day) TextRefusal
day_at s a start = day_behind s a start (eat_while AsciiDigit s start)

-- a run of hyphens and no-break spaces at a place, then digits
unfoldable pub day_from : List ℕ → ℕ → Result (Option Day) TextRefusal
day_from s a = day_at s a (eat_while Separator s a)

-- the day that a month field holds behind its month: white space but no-break spaces, then such a run
unfoldable pub day_in_month_field : List ℕ → ℕ → Result (Option Day) TextRefusal
day_in_month_field s at = day_from s (eat_while PlainWhitespace s at)

-- no day: the place is the span of the list
abbrev pub not_given : Kind → FileSpan → Result Day Refusal
not_given k span = Err (refusal k span)

-- a number as the stored day of a field. Where there is none, the span decides and not the text: a start below the end is a wrong
-- number, any other a missing one
unfoldable pub day_given : FileSpan → Option ℕ → Result Day Refusal
day_given span (Some d) = pick (is_day d) (Ok (record { 0 = d - 1 })) (not_given DayOutOfRange span)
day_given span None = pick (ltb span.0 span.1) (not_given InvalidNumber span) (not_given MissingNumber span)

-- the day of a day field: trimmed, a number up to 255 with a plus or none
unfoldable pub day_field : List ℕ → FileSpan → Result Day Refusal
day_field s span = day_given span (parse 255 (trim s))
