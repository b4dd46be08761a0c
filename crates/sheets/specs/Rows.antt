-- What is said of a row: its lines, and what it counts. A row is given by the own bytes of its cells.
use Rattle.std.specs.Prelude.{ℕ, Bool, false, ◌||◌, List, [], ◌++◌, eqb, ltb, length, get_or, take, Result, Ok, Err}
use Rattle.chars.specs.Pick.{pick}
use Rattle.csv_rows.specs.Bytes.{utf8_end}
use Rattle.csv_rows.specs.Texts.{undoubled}
use Rattle.verdicts.specs.declared.Verdict.{Verdict}
use Rattle.verdicts.specs.declared.Verdict.TheVariants.{NoDate, Full, NotStrict, ShortYear, Unread, Refused}
use Rattle.verdicts.specs.Dates.{date_verdict}
use Rattle.verdicts.specs.Windows.{is_windowed}
use Rattle.verdicts.specs.Fields.{cells, six_verdict}
use Rattle.findings.specs.declared.Column.{Column}
use Rattle.findings.specs.declared.Column.TheVariants.{Date, Origdate, Eventdate, Urldate}
use Rattle.headers.specs.declared.RowFault.TheVariants.{Cells, BadUtf8, LongCell}
use Rattle.findings.specs.Lines.{date_line, six_line, bad_row_line}
use Rattle.headers.specs.declared.Columns.{Columns}
use Rattle.sheets.specs.declared.Tally.{Tally}
use Rattle.headers.specs.declared.RowFault.{RowFault}
use Rattle.sheets.specs.Tallies.{one_row, one_bad, one_date}

-- the own bytes of the cell of a column; none where there is no such column
abbrev pub own_at : List (List ℕ) → ℕ → List ℕ
own_at cs k = get_or cs k []

-- its text
abbrev pub text_at : List (List ℕ) → ℕ → List ℕ
text_at cs k = undoubled (own_at cs k)

-- the column of the key: `key`, else `id`
unfoldable pub key_column : Columns → ℕ
key_column c = pick (ltb c.key 256) c.key c.id

-- a cell is longer than 4,096 bytes
abbrev pub is_long : List (List ℕ) → ℕ → Bool
is_long cs k = ltb 4096 (length (own_at cs k))

-- one of the six cells of a start and an end is
unfoldable pub long_six : Columns → List (List ℕ) → Bool
long_six c cs = is_long cs c.year || (is_long cs c.month || (is_long cs c.day || (is_long cs c.endyear || (is_long cs c.endmonth || is_long cs c.endday))))

-- one of the cells that are looked at is
unfoldable pub any_long : Columns → List (List ℕ) → Bool
any_long c cs =
    is_long cs (key_column c) || (is_long cs c.date || (is_long cs c.origdate || (is_long cs c.eventdate || (is_long cs c.urldate || long_six c cs))))

-- whether a row can be used: it has as many cells as the header, is UTF-8, and no cell that is looked at is too long; `width` is the header's number of cells
unfoldable pub checked_row : Columns → ℕ → List ℕ → ℕ → ℕ → List (List ℕ) → Result (Unit {0}) RowFault
checked_row c width s end count cs =
    pick (eqb count width) (pick (ltb (utf8_end (take end s)) end) (Err (BadUtf8 (utf8_end (take end s)))) (pick (any_long c cs) (Err LongCell) (Ok tt)))
    (Err (Cells count width))

-- of a date that is not strict it is asked whether its year was windowed
unfoldable pub windowed_if : Verdict → List ℕ → Bool
windowed_if NoDate cell = false
windowed_if Full cell = false
windowed_if (NotStrict d) cell = is_windowed cell
windowed_if (ShortYear d) cell = false
windowed_if Unread cell = false
windowed_if (Refused e) cell = false

-- the line of a date in one cell
unfoldable pub date_said : ℕ → List ℕ → Column → List ℕ → List ℕ
date_said line key column cell = date_line line key column cell (date_verdict cell) (windowed_if (date_verdict cell) cell)

-- the lines of the four
unfoldable pub dates_said : ℕ → List ℕ → Columns → List (List ℕ) → List ℕ
dates_said line key c cs =
    ((date_said line key Date (text_at cs c.date) ++ date_said line key Origdate (text_at cs c.origdate))
    ++ date_said line key Eventdate (text_at cs c.eventdate))
    ++ date_said line key Urldate (text_at cs c.urldate)

-- what they count
unfoldable pub dates_counted : Columns → List (List ℕ) → Tally → Tally
dates_counted c cs t =
    one_date (one_date (one_date (one_date t (date_verdict (text_at cs c.date))) (date_verdict (text_at cs c.origdate))) (date_verdict (text_at cs c.eventdate)))
    (date_verdict (text_at cs c.urldate))

-- the verdict on the six cells of a start and an end
unfoldable pub six_of : Columns → List (List ℕ) → Verdict
six_of c cs =
    six_verdict (cells (text_at cs c.year) (text_at cs c.month) (text_at cs c.day))
    (cells (text_at cs c.endyear) (text_at cs c.endmonth) (text_at cs c.endday))

-- their line
unfoldable pub six_said : ℕ → List ℕ → Columns → List (List ℕ) → List ℕ
six_said line key c cs =
    six_line line key (text_at cs c.year) (text_at cs c.month) (text_at cs c.day) (text_at cs c.endyear) (text_at cs c.endmonth) (text_at cs c.endday)
    (six_of c cs)

-- the lines of a row, by its key
unfoldable pub lines_by : ℕ → List ℕ → Columns → List (List ℕ) → List ℕ
lines_by line key c cs = dates_said line key c cs ++ six_said line key c cs

-- the lines of a row
unfoldable pub row_said : ℕ → Columns → List (List ℕ) → List ℕ
row_said line c cs = lines_by line (text_at cs (key_column c)) c cs

-- what it counts
unfoldable pub row_counted : Columns → List (List ℕ) → Tally → Tally
row_counted c cs t = one_date (dates_counted c cs t) (six_of c cs)

-- the lines of a row that was checked
unfoldable pub checked_said : ℕ → Columns → List (List ℕ) → Result (Unit {0}) RowFault → List ℕ
checked_said line c cs (Ok tt) = row_said line c cs
checked_said line c cs (Err f) = bad_row_line line f

-- and what it counts
unfoldable pub checked_counted : Columns → List (List ℕ) → Result (Unit {0}) RowFault → Tally → Tally
checked_counted c cs (Ok tt) t = row_counted c cs (one_row t)
checked_counted c cs (Err f) t = one_bad t
