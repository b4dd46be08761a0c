-- The lines that are said of an import file.
use Rattle.std.specs.Prelude.{ℕ, ◌+◌, Bool, true, false, ◌&&◌, List, [], ◌∷◌, ◌++◌, eqb, length}
use Rattle.chars.specs.Pick.{pick}
use Rattle.chars.specs.Ascii.{ascii}
use Rattle.puts.specs.Numbers.{decimal}
use Rattle.verdicts.specs.declared.Verdict.{Verdict}
use Rattle.findings.specs.declared.Column.{Column}
use Rattle.findings.specs.declared.Column.TheVariants.{Date, Origdate, Eventdate, Urldate}
use Rattle.headers.specs.declared.RowFault.{RowFault}
use Rattle.headers.specs.declared.Unusable.{Unusable}
use Rattle.headers.specs.declared.Unusable.TheVariants.{Empty, NoColumn, Twice, Returns, NoRow}
use Rattle.findings.specs.Escapes.{escaped, quoted}
use Rattle.findings.specs.Words.{counted, is_said, sort, message, row_words}

-- fields with a tab between them, then a line feed
abbrev pub tabbed : List (List ℕ) → List ℕ
tabbed [] = 10 ∷ []
tabbed (f ∷ []) = f ++ (10 ∷ [])
tabbed (f ∷ g ∷ l) = f ++ (9 ∷ tabbed (g ∷ l))

-- a finding: line number, key, column, text, sort, message
unfoldable pub finding : ℕ → List ℕ → List ℕ → List ℕ → List ℕ → List ℕ → List ℕ
finding line key column text kind words = tabbed (decimal 1 line ∷ escaped key ∷ column ∷ text ∷ kind ∷ words ∷ [])

-- the finding of a verdict; of no date, and of a full one, nothing is said
unfoldable pub verdict_line : ℕ → List ℕ → List ℕ → List ℕ → Verdict → Bool → List ℕ
verdict_line line key column text v windowed = pick (is_said v) (finding line key column text (sort v) (message v windowed)) []

-- the name of a column
unfoldable pub column_name : Column → List ℕ
column_name Date = ascii "date"
column_name Origdate = ascii "origdate"
column_name Eventdate = ascii "eventdate"
column_name Urldate = ascii "urldate"

-- the line of a date in one cell
unfoldable pub date_line : ℕ → List ℕ → Column → List ℕ → Verdict → Bool → List ℕ
date_line line key column cell v windowed = verdict_line line key (column_name column) (quoted cell) v windowed

-- a cell of six behind its name, if it is not empty; behind a comma unless it is the first
unfoldable pub named_cell : Bool → List ℕ → List ℕ → List ℕ
named_cell first name cell = pick (eqb (length cell) 0) [] (pick first [] (ascii ", ") ++ (name ++ (ascii " " ++ quoted cell)))

-- whether the next one is the first still
unfoldable pub still_first : Bool → List ℕ → Bool
still_first first cell = first && eqb (length cell) 0

-- the text of six cells
unfoldable pub six_text : List ℕ → List ℕ → List ℕ → List ℕ → List ℕ → List ℕ → List ℕ
six_text year month day end_year end_month end_day =
    let a = still_first true year in
    let b = still_first a month in
    let c = still_first b day in
    let d = still_first c end_year in
    let e = still_first d end_month in
    named_cell true (ascii "year") year
    ++ (named_cell a (ascii "month") month
    ++ (named_cell b (ascii "day") day
    ++ (named_cell c (ascii "endyear") end_year
    ++ (named_cell d (ascii "endmonth") end_month ++ named_cell e (ascii "endday") end_day))))

-- the line of a date in six cells
unfoldable pub six_line : ℕ → List ℕ → List ℕ → List ℕ → List ℕ → List ℕ → List ℕ → List ℕ → Verdict → List ℕ
six_line line key year month day end_year end_month end_day v =
    verdict_line line key (ascii "year") (six_text year month day end_year end_month end_day) v false

-- the line of a row that can not be used: no key, no column, no text
unfoldable pub bad_row_line : ℕ → RowFault → List ℕ
bad_row_line line fault = finding line [] [] [] (ascii "bad row") (row_words fault)

-- what follows from so many findings
unfoldable pub signing : ℕ → List ℕ
signing n =
    pick (eqb n 0) (ascii "safe to sign\n")
    (counted (ascii "do not sign: ") n ++ pick (eqb n 1) (ascii " finding\n") (ascii " findings\n"))

-- the two lines at the end
unfoldable pub summary : ℕ → ℕ → ℕ → ℕ → ℕ → List ℕ
summary rows strict otherwise refused bad =
    counted (ascii "rows ") rows
    ++ (counted (ascii ", dates ") (strict + otherwise + refused)
    ++ (counted (ascii ", strict ") strict
    ++ (counted (ascii ", read otherwise ") otherwise
    ++ (counted (ascii ", refused ") refused
    ++ (counted (ascii ", bad rows ") bad ++ (ascii "\n" ++ signing (otherwise + refused + bad)))))))

-- why the header can not be used
unfoldable pub unusable_words : Unusable → List ℕ
unusable_words Empty = ascii "the file is empty"
unusable_words NoColumn = ascii "the header has no column to check"
unusable_words Twice = ascii "the header has a column twice"
unusable_words Returns = ascii "its lines end in carriage returns alone"
unusable_words (NoRow fault) = ascii "the header is no row: " ++ row_words fault

-- the one line of a file whose header can not be used
unfoldable pub unread_line : Unusable → List ℕ
unread_line reason = ascii "could not be read: " ++ (unusable_words reason ++ ascii "\n")
