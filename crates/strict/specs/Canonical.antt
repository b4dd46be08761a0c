-- The text that a Datetime of the calendar without a time has in the strict grammar. No public contract rests on it.
use Rattle.std.specs.Prelude.{ℕ, suc, ◌+◌, List, [], ◌∷◌, ◌++◌, ℤ, pos, negsuc, Option, Some, None}
use Prim.Native.Char.{code}
use Rattle.dates.specs.declared.Day.{Day}
use Rattle.dates.specs.declared.Month.{Month}
use Rattle.dates.specs.declared.Datetime.{Datetime}
use Rattle.strict.specs.Digits.{digits}

-- a year with four digits, behind a minus if it is negative
unfoldable pub year_text : ℤ → List ℕ
year_text (pos n) = digits 4 n
year_text (negsuc n) = code "-" ∷ digits 4 (suc n)

-- a month or a day: a hyphen and two digits, counted from one
unfoldable pub part_text : ℕ → List ℕ
part_text n = code "-" ∷ digits 2 (1 + n)

-- a day, if there is one
unfoldable pub day_text : Option Day → List ℕ
day_text None = []
day_text (Some d) = part_text d.0

-- a month, if there is one, and behind it the day
unfoldable pub month_text : Option Month → Option Day → List ℕ
month_text None d = []
month_text (Some m) d = part_text m.0 ++ day_text d

-- the text of a Datetime; its time is left out
unfoldable pub canonical : Datetime → List ℕ
canonical d = year_text d.year ++ month_text d.month d.day
