-- The fields of a date: lines `name=value` and a line feed.
use Rattle.std.specs.Prelude.{ℕ, Bool, true, false, List, [], ◌∷◌, ◌++◌}
use Rattle.dates.specs.declared.Datetime.{Datetime}
use Rattle.dates.specs.declared.DateValue.{DateValue}
use Rattle.dates.specs.declared.DateValue.TheVariants.{At, After, Before, Between}
use Rattle.dates.specs.declared.Date.{Date}
use Rattle.writer.specs.declared.Parts.{Parts}
use Rattle.writer.specs.declared.Parts.TheVariants.{NoParts, WithMonth, WithDay, TooLarge}
use Rattle.chars.specs.Ascii.{ascii}
use Rattle.writer.specs.Texts.{year_text, part_text, parts_of}

-- what the names of the second end of a range begin with
unfoldable pub prefix : Bool → List ℕ
prefix true = ascii "end"
prefix false = []

-- one line; the name comes with its equals sign
unfoldable pub line : Bool → List ℕ → List ℕ → List ℕ
line end name value = prefix end ++ name ++ value ++ (10 ∷ [])

-- the lines of the month and the day
unfoldable pub part_lines : Bool → Parts → List ℕ
part_lines end NoParts = []
part_lines end (WithMonth m) = line end (ascii "month=") (part_text m.0)
part_lines end (WithDay m d) = line end (ascii "month=") (part_text m.0) ++ line end (ascii "day=") (part_text d.0)
part_lines end TooLarge = []

-- the lines of a Datetime: year, month, day
unfoldable pub end_lines : Bool → Datetime → List ℕ
end_lines end d = line end (ascii "year=") (year_text d.year) ++ part_lines end (parts_of d)

-- the lines of a point or range: those of its one Datetime, or of both ends, the second one's names behind "end"
unfoldable pub value_lines : DateValue → List ℕ
value_lines (At d) = end_lines false d
value_lines (After d) = end_lines false d
value_lines (Before d) = end_lines false d
value_lines (Between a b) = end_lines false a ++ end_lines true b

-- the fields of a date; its marks are none of them
unfoldable pub fields_text : Date → List ℕ
fields_text d = value_lines d.value
