-- The columns of a sheet, by the names in the cells of its header.
use Rattle.std.specs.Prelude.{ℕ, suc, ◌+◌, Bool, ◌||◌, List, [], ◌∷◌, ltb, drop}
use Rattle.chars.specs.Pick.{pick}
use Rattle.chars.specs.Ascii.{ascii}
use Rattle.csv_rows.specs.declared.Separator.{Separator}
use Rattle.csv_rows.specs.declared.Separator.TheVariants.{Comma, Semicolon, Tab}
use Rattle.headers.specs.declared.Columns.{Columns}
use Rattle.headers.specs.Names.{is_name}

-- the first of these cells that has the name, the first of them being number i; 256 if none has
unfoldable pub column_from : List ℕ → ℕ → List (List ℕ) → ℕ
column_from name i [] = 256
column_from name i (c ∷ cs) = pick (is_name name c) i (column_from name (suc i) cs)

-- the first cell that has the name; 256 if none has
unfoldable pub column_of : List ℕ → List (List ℕ) → ℕ
column_of name cs = column_from name 0 cs

-- the columns of a header
unfoldable pub columns_of : List (List ℕ) → Columns
columns_of cs =
    record {
      date = column_of (ascii "date") cs;
      origdate = column_of (ascii "origdate") cs;
      eventdate = column_of (ascii "eventdate") cs;
      urldate = column_of (ascii "urldate") cs;
      year = column_of (ascii "year") cs;
      month = column_of (ascii "month") cs;
      day = column_of (ascii "day") cs;
      endyear = column_of (ascii "endyear") cs;
      endmonth = column_of (ascii "endmonth") cs;
      endday = column_of (ascii "endday") cs;
      key = column_of (ascii "key") cs;
      id = column_of (ascii "id") cs;
    }

-- 1 for a column that there is
unfoldable pub one : ℕ → ℕ
one column = pick (ltb column 256) 1 0

-- how many of the six columns of a start and an end there are
unfoldable pub six_columns : Columns → ℕ
six_columns c = one c.year + one c.month + one c.day + one c.endyear + one c.endmonth + one c.endday

-- how many there are whose cells are checked: all but the keys
unfoldable pub checked : Columns → ℕ
checked c = one c.date + one c.origdate + one c.eventdate + one c.urldate + six_columns c

-- how many there are
unfoldable pub known : Columns → ℕ
known c = checked c + one c.key + one c.id

-- a cell behind this column has the name too
unfoldable pub again : List ℕ → ℕ → List (List ℕ) → Bool
again name column cs = ltb (column_from name (suc column) (drop (suc column) cs)) 256

-- one of the four names of dates, or of the two of keys, stands in two cells
unfoldable pub twice_date : Columns → List (List ℕ) → Bool
twice_date c cs =
    again (ascii "date") c.date cs
    || (again (ascii "origdate") c.origdate cs
    || (again (ascii "eventdate") c.eventdate cs
    || (again (ascii "urldate") c.urldate cs || (again (ascii "key") c.key cs || again (ascii "id") c.id cs))))

-- one of the six names of a start and an end
unfoldable pub twice_six : Columns → List (List ℕ) → Bool
twice_six c cs =
    again (ascii "year") c.year cs
    || (again (ascii "month") c.month cs
    || (again (ascii "day") c.day cs
    || (again (ascii "endyear") c.endyear cs || (again (ascii "endmonth") c.endmonth cs || again (ascii "endday") c.endday cs))))

-- a known name stands in two cells
unfoldable pub twice : List (List ℕ) → Bool
twice cs = twice_date (columns_of cs) cs || twice_six (columns_of cs) cs

-- the separator by which there are most known names; of equals the first
unfoldable pub chosen : ℕ → ℕ → ℕ → Separator
chosen comma semicolon tab = pick (ltb comma semicolon) (pick (ltb semicolon tab) Tab Semicolon) (pick (ltb comma tab) Tab Comma)
