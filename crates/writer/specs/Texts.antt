-- The text of a date.
use Rattle.std.specs.Prelude.{ℕ, ◌+◌, Bool, true, false, List, [], ◌++◌, eqb, ℤ, pos, negsuc, nat_abs, Option, Some, None}
use Rattle.chars.specs.Pick.{pick}
use Rattle.dates.specs.declared.Month.{Month}
use Rattle.dates.specs.declared.Day.{Day}
use Rattle.dates.specs.declared.WrittenMonth.{WrittenMonth}
use Rattle.dates.specs.declared.WrittenDay.{WrittenDay}
use Rattle.dates.specs.declared.Datetime.{Datetime}
use Rattle.dates.specs.declared.DateValue.{DateValue}
use Rattle.dates.specs.declared.Date.{Date}
use Rattle.dates.specs.Ends.{any_end, joined}
use Rattle.writer.specs.declared.Parts.{Parts}
use Rattle.writer.specs.declared.Parts.TheVariants.{NoParts, WithMonth, WithDay, TooLarge}
use Rattle.chars.specs.Ascii.{ascii}
use Rattle.puts.specs.Numbers.{decimal}
use Rattle.puts.specs.Marks.{mark_text}

-- a minus before a negative number
unfoldable pub minus : ℤ → List ℕ
minus (pos n) = []
minus (negsuc n) = ascii "-"

-- a year: at least four digits, after a minus if it is negative
unfoldable pub year_text : ℤ → List ℕ
year_text y = minus y ++ decimal 4 (nat_abs y)

-- a stored month starts at zero, a written one at one
unfoldable pub written_month : Month → WrittenMonth
written_month m = record { 0 = m.0 + 1 }

-- a stored day likewise
unfoldable pub written_day : Day → WrittenDay
written_day d = record { 0 = d.0 + 1 }

-- the day beside a month; 255 has no written number in a byte
unfoldable pub day_parts : Month → Option Day → Parts
day_parts m None = WithMonth (written_month m)
day_parts m (Some d) = pick (eqb d.0 255) TooLarge (WithDay (written_month m) (written_day d))

-- a day without a month is not written
unfoldable pub month_parts : Option Month → Option Day → Parts
month_parts None d = NoParts
month_parts (Some m) d = pick (eqb m.0 255) TooLarge (day_parts m d)

-- what is written of a Datetime behind its year; never the time
unfoldable pub parts_of : Datetime → Parts
parts_of d = month_parts d.month d.day

-- a written month or day: at least two digits
unfoldable pub part_text : ℕ → List ℕ
part_text n = decimal 2 n

-- the same behind a hyphen
unfoldable pub hyphen_part : ℕ → List ℕ
hyphen_part n = ascii "-" ++ part_text n

-- the month, then the day
unfoldable pub parts_text : Parts → List ℕ
parts_text NoParts = []
parts_text (WithMonth m) = hyphen_part m.0
parts_text (WithDay m d) = hyphen_part m.0 ++ hyphen_part d.0
parts_text TooLarge = []

-- a Datetime: the year, then the month and the day if there are such
unfoldable pub datetime_text : Datetime → List ℕ
datetime_text d = year_text d.year ++ parts_text (parts_of d)

-- a point, or a range whose open side is two dots
unfoldable pub value_text : DateValue → List ℕ
value_text v = joined datetime_text v

-- a date: the point or range, then its mark
unfoldable pub date_text : Date → List ℕ
date_text d = value_text d.value ++ mark_text d.uncertain d.approximate

-- whether the parts have no text
unfoldable pub too_large : Parts → Bool
too_large NoParts = false
too_large (WithMonth m) = false
too_large (WithDay m d) = false
too_large TooLarge = true

-- whether an end panics: its month is 255, or its day beside a month
unfoldable pub end_panics : Datetime → Bool
end_panics d = too_large (parts_of d)

-- whether one of the ends of a point or range does
unfoldable pub value_panics : DateValue → Bool
value_panics v = any_end end_panics v

-- whether the Rust panics when it writes the date or its fields
unfoldable pub panics : Date → Bool
panics d = value_panics d.value
