-- Cells that leave nothing to be guessed: a year, a month and a day as they should stand, or none; and a Date whose text is strict.
use Prim.Native.Char.{code}
use Rattle.std.specs.Prelude.{ℕ, Bool, true, false, ◌&&◌, ◌||◌, List, [], ◌∷◌, ltb, leb, eqb, length, Option, Some, None, Result, Ok, Err}
use Rattle.chars.specs.Pick.{pick}
use Rattle.chars.specs.Ascii.{ascii}
use Rattle.scanner.specs.declared.Class.TheVariants.{AsciiDigit}
use Rattle.scanner.specs.Scan.{eat_while, eat_text, done_at}
use Rattle.dates.specs.declared.Month.{Month}
use Rattle.refusals.specs.declared.Refusal.{Refusal}
use Rattle.dates.specs.declared.Date.{Date}
use Rattle.writer.specs.Texts.{date_text}
use Rattle.writer.specs.Answers.{date_measured}
use Rattle.fields.specs.Names.{month_for}
use Rattle.fields.specs.Year.{on_past}
use Rattle.reading_laws.specs.Field.{parsed_strict}
use Rattle.verdicts.specs.Dates.{cell_table}

-- digits alone, from low to high of them
unfoldable pub is_digits : ℕ → ℕ → List ℕ → Bool
is_digits low high s = leb low (length s) && (leb (length s) high && done_at s (eat_while AsciiDigit s 0))

-- four digits, behind a minus or not
unfoldable pub is_full_year : List ℕ → Bool
is_full_year [] = false
is_full_year (b ∷ s) = pick (eqb b (code "-")) (is_digits 4 4 s) (is_digits 4 4 (b ∷ s))

-- a text stands at a place, and nothing behind it
unfoldable pub ends_in : List ℕ → List ℕ → ℕ → Bool
ends_in t s at = on_past (eat_text t s at) (done_at s) false

-- an era behind one space stands there
unfoldable pub ends_in_era : List ℕ → ℕ → Bool
ends_in_era s at = ends_in (ascii " AD") s at || (ends_in (ascii " CE") s at || (ends_in (ascii " BC") s at || ends_in (ascii " BCE") s at))

-- an era behind so many digits, of which there are one to four
unfoldable pub has_era : List ℕ → ℕ → Bool
has_era s digits = ltb 0 digits && (ltb digits 5 && ends_in_era s digits)

-- one to four digits and an era
unfoldable pub is_era_year : List ℕ → Bool
is_era_year s = has_era s (eat_while AsciiDigit s 0)

-- a year: four digits, behind a minus or not, or one to four and an era; or an empty cell
unfoldable pub is_plain_year : List ℕ → Bool
is_plain_year s = eqb (length s) 0 || (is_full_year s || is_era_year s)

-- whether a name is one of a month
unfoldable pub is_named : Option Month → Bool
is_named None = false
is_named (Some m) = true

-- a month: one or two digits, or all of a name or of an abbreviation; or an empty cell
unfoldable pub is_plain_month : List ℕ → Bool
is_plain_month s = is_digits 0 2 s || is_named (month_for s)

-- a day: one or two digits; or an empty cell
unfoldable pub is_plain_day : List ℕ → Bool
is_plain_day s = is_digits 0 2 s

-- a text that has a length, and nothing where the writer refuses
unfoldable pub text_if : Result ℕ Refusal → List ℕ → List ℕ
text_if (Ok n) text = text
text_if (Err e) text = []

-- the written text of a Date; a Date that the writer refuses has none
unfoldable pub written_text : Date → List ℕ
written_text d = text_if (date_measured d (date_text d)) (date_text d)

-- whether a reader accepts
unfoldable pub is_accepted : Result Date Refusal → Bool
is_accepted (Ok d) = true
is_accepted (Err e) = false

-- whether the strict reader accepts a text
unfoldable pub is_strict_text : List ℕ → Bool
is_strict_text s = is_accepted (parsed_strict s (cell_table s))

-- whether it accepts the written text of a Date
unfoldable pub is_strict : Date → Bool
is_strict d = is_strict_text (written_text d)
