-- What is said of the six cells year, month, day, end year, end month and end day of a row.
use Rattle.std.specs.Prelude.{ℕ, ◌-◌, Bool, not, ◌&&◌, ◌||◌, List, ltb, length, Result, Ok, Err}
use Rattle.chars.specs.Pick.{pick}
use Rattle.scanner.specs.declared.Class.TheVariants.{Whitespace, AsciiDigit}
use Rattle.scanner.specs.Scan.{eat_while, done_at}
use Rattle.dates.specs.declared.Date.{Date}
use Rattle.refusals.specs.declared.Refusal.{Refusal}
use Rattle.chunks.specs.Lent.{Optional, Three, lent, optional, three}
use Rattle.numbers.specs.Number.{behind_sign}
use Rattle.datefield.specs.Text.{is_blank}
use Rattle.sixfields.specs.Six.{six_fields}
use Rattle.verdicts.specs.declared.Verdict.{Verdict}
use Rattle.verdicts.specs.declared.Verdict.TheVariants.{NoDate, Full, NotStrict, ShortYear, Unread, Refused}
use Rattle.verdicts.specs.Dates.{cell_table}
use Rattle.verdicts.specs.Plain.{is_plain_year, is_plain_month, is_plain_day, is_strict}

-- the texts of a start's cells, or of an end's
pub record Cells : Type 0 where
  -- that of the year
  pub year : List ℕ
  -- that of the month
  pub month : List ℕ
  -- that of the day
  pub day : List ℕ

-- the cells of these texts
abbrev pub cells : List ℕ → List ℕ → List ℕ → Cells
cells y m d = record { year = y; month = m; day = d }

-- whether a cell has a text
abbrev pub is_given : List ℕ → Bool
is_given s = ltb 0 (length s)

-- whether one of three has
unfoldable pub some_given : Cells → Bool
some_given c = is_given c.year || (is_given c.month || is_given c.day)

-- a month's cell is empty and the day's is not: no reader looks at a day without a month
unfoldable pub day_alone : List ℕ → List ℕ → Bool
day_alone month day = not (is_given month) && is_given day

-- an end with a text in one of its cells and a year that is empty or white space alone: what stands behind that is not read
unfoldable pub behind_blank : Cells → Bool
behind_blank c = some_given c && is_blank c.year

-- whether a cell has a text that the reader of six fields would not look at: by the month and the day of the start, and the end
unfoldable pub is_unread : List ℕ → List ℕ → Cells → Bool
is_unread month day end = day_alone month day || (behind_blank end || day_alone end.month end.day)

-- a cell as a field that may be absent: an empty one is
abbrev pub field_of : List ℕ → Optional
field_of s = optional (is_given s) s (cell_table s)

-- three cells as three fields
abbrev pub fields_of : Cells → Three
fields_of c = three (lent c.year (cell_table c.year)) (field_of c.month) (field_of c.day)

-- what the reader of six fields says
unfoldable pub six_read : Cells → Cells → Result Date Refusal
six_read start end = six_fields (fields_of start) (is_given end.year) (fields_of end)

-- one to three bytes from a place to another, and behind them white space alone
unfoldable pub is_few : List ℕ → ℕ → ℕ → Bool
is_few s at end = ltb at end && (ltb (end - at) 4 && done_at s (eat_while Whitespace s end))

-- one to three digits from a place on, likewise
unfoldable pub few_from : List ℕ → ℕ → Bool
few_from s at = is_few s at (eat_while AsciiDigit s at)

-- a year of fewer than four digits and no era: white space, a sign or none, one to three digits, white space
unfoldable pub few_digits : List ℕ → Bool
few_digits s = few_from s (behind_sign s (eat_while Whitespace s 0))

-- the year or the end year is such a one
unfoldable pub either_few : List ℕ → List ℕ → Bool
either_few year end_year = few_digits year || few_digits end_year

-- cells that leave nothing to be guessed
unfoldable pub are_plain : Cells → Bool
are_plain c = is_plain_year c.year && (is_plain_month c.month && is_plain_day c.day)

-- the same of a start and an end
unfoldable pub both_plain : Cells → Cells → Bool
both_plain start end = are_plain start && are_plain end

-- what was read: a year is short; or it is full, if the cells are plain and its written text is strict
unfoldable pub verdict_of : Bool → Bool → Result Date Refusal → Verdict
verdict_of short plain (Ok d) = pick short (ShortYear d) (pick (plain && is_strict d) Full (NotStrict d))
verdict_of short plain (Err e) = Refused e

-- what the reader of six fields says
unfoldable pub read_verdict : Cells → Cells → Verdict
read_verdict start end = verdict_of (either_few start.year end.year) (both_plain start end) (six_read start end)

-- six cells of which one has a text: something is not read, or the reader says it
unfoldable pub given_verdict : Cells → Cells → Verdict
given_verdict start end = pick (is_unread start.month start.day end) Unread (read_verdict start end)

-- six cells; all of them may be empty
unfoldable pub six_verdict : Cells → Cells → Verdict
six_verdict start end = pick (some_given start || some_given end) (given_verdict start end) NoDate
