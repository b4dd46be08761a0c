-- The header of a file: the separator, the columns, and how many cells each row is to have; or why the file can not be read.
use Rattle.std.specs.Prelude.{ℕ, ◌+◌, Bool, true, false, List, [], ◌∷◌, eqb, leb, ltb, length, get_or, take, drop, Option, Some, None}
use Rattle.chars.specs.Pick.{pick}
use Rattle.csv_rows.specs.declared.Separator.{Separator}
use Rattle.csv_rows.specs.declared.Separator.TheVariants.{Comma, Semicolon, Tab}
use Rattle.csv_rows.specs.declared.Fault.{Fault}
use Rattle.csv_rows.specs.declared.Fault.TheVariants.{QuoteInside, TextBehind, LoneReturn, NeverClosed, TooLong, TooMany}
use Rattle.csv_rows.specs.declared.RowRead.{RowRead}
use Rattle.csv_rows.specs.declared.RowRead.TheVariants.{Row, Faulty, Endless, More, Nothing}
use Rattle.csv_rows.specs.Reader.{byte_of, Place}
use Rattle.csv_rows.specs.Answers.{answer, line_of}
use Rattle.csv_rows.specs.Bytes.{utf8_end}
use Rattle.csv_rows.specs.Texts.{own_bytes}
use Rattle.headers.specs.declared.RowFault.TheVariants.{Broken, BadUtf8}
use Rattle.headers.specs.declared.Unusable.{Unusable}
use Rattle.headers.specs.declared.Unusable.TheVariants.{Empty, NoColumn, Twice, Returns, NoRow}
use Rattle.headers.specs.declared.Header.{Header}
use Rattle.headers.specs.declared.Header.TheVariants.{Wait, Without, With}
use Rattle.headers.specs.Columns.{columns_of, checked, known, twice, chosen}

-- the own bytes of cells
unfoldable pub own_of : List ℕ → List Place → List (List ℕ)
own_of s [] = []
own_of s (c ∷ cs) = own_bytes s c ∷ own_of s cs

-- the own bytes of the cells of the row at the front of a block
unfoldable pub row_cells : Separator → Bool → List ℕ → List (List ℕ)
row_cells sep last s = own_of s (line_of (byte_of sep) last s).cells

-- how many known names a row has; what is no row has none
unfoldable pub names_in : RowRead → List (List ℕ) → Option ℕ
names_in (Row end count) cs = Some (known (columns_of cs))
names_in (Faulty end f) cs = Some 0
names_in (Endless f) cs = Some 0
names_in More cs = None
names_in Nothing cs = Some 0

-- how many the first row has by a separator
unfoldable pub names_by : Separator → Bool → List ℕ → Option ℕ
names_by sep last s = names_in (answer (byte_of sep) last s) (row_cells sep last s)

-- what is no row is no header
unfoldable pub no_row : Fault → Unusable
no_row (QuoteInside p) = NoRow (Broken (QuoteInside p))
no_row (TextBehind p) = NoRow (Broken (TextBehind p))
no_row (LoneReturn p) = Returns
no_row (NeverClosed p) = NoRow (Broken (NeverClosed p))
no_row (TooLong p) = NoRow (Broken (TooLong p))
no_row TooMany = NoRow (Broken TooMany)

-- a row that is read is the header if no name stands twice and one is that of a column to check; n bytes stand before it
unfoldable pub with_cells : ℕ → Separator → ℕ → ℕ → List (List ℕ) → Header
with_cells n sep end count cs =
    pick (twice cs) (Without Twice) (pick (eqb (checked (columns_of cs)) 0) (Without NoColumn) (With (n + end) sep (columns_of cs) count))

-- and if it is UTF-8
unfoldable pub with_row : ℕ → Separator → List ℕ → ℕ → ℕ → List (List ℕ) → Header
with_row n sep s end count cs =
    pick (ltb (utf8_end (take end s)) end) (Without (NoRow (BadUtf8 (utf8_end (take end s))))) (with_cells n sep end count cs)

-- the header by what is read at the front, and by its cells
unfoldable pub header_in : ℕ → Separator → List ℕ → RowRead → List (List ℕ) → Header
header_in n sep s (Row end count) cs = with_row n sep s end count cs
header_in n sep s (Faulty end f) cs = Without (no_row f)
header_in n sep s (Endless f) cs = Without (no_row f)
header_in n sep s More cs = Wait
header_in n sep s Nothing cs = Without Empty

-- the header by a separator
unfoldable pub header_by : ℕ → Separator → Bool → List ℕ → Header
header_by n sep last s = header_in n sep s (answer (byte_of sep) last s) (row_cells sep last s)

-- where it is told how many names there are it goes on
unfoldable pub on_names : Option ℕ → (ℕ → Header) → Header
on_names (Some n) go = go n
on_names None go = Wait

-- the header by the separator that gives most names
unfoldable pub header_row : ℕ → Bool → List ℕ → Header
header_row n last s =
    on_names (names_by Comma last s) λ comma.
    on_names (names_by Semicolon last s) λ semicolon.
    on_names (names_by Tab last s) λ tab.
    header_by n (chosen comma semicolon tab) last s

-- how long the byte order mark is that stands at the front
unfoldable pub mark_len : List ℕ → ℕ
mark_len s = pick (leb 3 (length s)) (pick (eqb (get_or s 0 0) 0xEF) (pick (eqb (get_or s 1 0) 0xBB) (pick (eqb (get_or s 2 0) 0xBF) 3 0) 0) 0) 0

-- the header behind that
unfoldable pub header_behind : Bool → List ℕ → Header
header_behind last s = header_row (mark_len s) last (drop (mark_len s) s)

-- the header of a file, at whose front a byte order mark may stand: three bytes are waited for
unfoldable pub header : Bool → List ℕ → Header
header last s = pick last (header_behind true s) (pick (ltb (length s) 3) Wait (header_behind false s))
