-- The fields of one end of a Date, as they are written and as they are read back.
use Rattle.std.specs.Prelude.{ℕ, ◌+◌, Bool, true, false, List, [], ◌++◌, Option, Some, None, Result}
use Rattle.dates.specs.declared.Date.{Date}
use Rattle.dates.specs.declared.Day.{Day}
use Rattle.dates.specs.declared.Month.{Month}
use Rattle.refusals.specs.declared.Refusal.{Refusal}
use Rattle.dates.specs.declared.Datetime.{Datetime}
use Rattle.chunks.specs.Lent.{Three, lent, optional, three}
use Rattle.reading_laws.specs.Fields.{three_fields}
use Rattle.chars.specs.Ascii.{ascii}
use Rattle.chunks.specs.Chunks.{one_chunk}
use Rattle.writer.specs.Texts.{year_text, part_text}
use Rattle.writer.specs.Fields.{line}

-- whether there is a month field
abbrev pub has_month : Option Month → Bool
has_month None = false
has_month (Some m) = true

-- whether there is a day field
abbrev pub has_day : Option Day → Bool
has_day None = false
has_day (Some d) = true

-- the month field's value: counted from one
abbrev pub month_value : Option Month → List ℕ
month_value None = []
month_value (Some m) = part_text (m.0 + 1)

-- the day field's
abbrev pub day_value : Option Day → List ℕ
day_value None = []
day_value (Some d) = part_text (d.0 + 1)

-- a line, if there is such a field
abbrev pub line_if : Bool → Bool → List ℕ → List ℕ → List ℕ
line_if true end name value = line end name value
line_if false end name value = []

-- the lines of an end, each with its value
abbrev pub lines_of : Bool → Datetime → List ℕ
lines_of end d =
    line end (ascii "year=") (year_text d.year)
    ++ (line_if (has_month d.month) end (ascii "month=") (month_value d.month) ++ line_if (has_day d.day) end (ascii "day=") (day_value d.day))

-- the values of those lines as three fields, one Normal chunk each, from any place to any place of a file
abbrev pub values_of : Datetime → ℕ → ℕ → ℕ → ℕ → ℕ → ℕ → Three
values_of d ys ye ms me ds de =
    three
    (lent (year_text d.year) (one_chunk (year_text d.year) ys ye))
    (optional (has_month d.month) (month_value d.month) (one_chunk (month_value d.month) ms me))
    (optional (has_day d.day) (day_value d.day) (one_chunk (day_value d.day) ds de))

-- and read
abbrev pub read_back : Datetime → ℕ → ℕ → ℕ → ℕ → ℕ → ℕ → Result Date Refusal
read_back d ys ye ms me ds de = three_fields (values_of d ys ye ms me ds de)
