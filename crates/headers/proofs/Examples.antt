-- Worked examples: names, separators, and the headers of files. Each answer is written out. Assumes nothing.
use mathlib.Core.Path.{◌≡◌, refl}
use mathlib.Core.Bool.{Bool, true, false}
use mathlib.Core.List.{List, [], ◌∷◌, ◌++◌, map}
use Prim.Native.Nat.{ℕ, zero, suc}
use Prim.Native.String.{String}
use Rattle.chars.specs.Pick.{pick}
use Rattle.chars.specs.Ascii.{ascii}
use Rattle.chars.specs.Utf8.{len_of, is_cont, is_surrogate, decode2, decode3, decode4, decode, first, len_d}
use Rattle.fields.specs.Names.{lower}
use Rattle.csv_rows.specs.declared.Separator.{Separator}
use Rattle.csv_rows.specs.declared.Separator.TheVariants.{Comma, Semicolon, Tab}
use Rattle.csv_rows.specs.declared.Fault.TheVariants.{QuoteInside, TextBehind, LoneReturn, NeverClosed, TooLong, TooMany}
use Rattle.csv_rows.specs.Reader.{is_stop, is_special, is, up_to, inner_len, return_of, stop_of, closed, plain_by, quoted_by, cell_of, line_by, line_from, line}
use Rattle.csv_rows.specs.Answers.{window, is_cut, is_over, place_of, end_len, counted, row_by, refused, answer_by, answer_of, line_of, answer}
use Rattle.csv_rows.specs.Texts.{own_bytes}
use Rattle.csv_rows.specs.Bytes.{utf8_from, utf8_end}
use Rattle.headers.specs.declared.RowFault.TheVariants.{Broken, BadUtf8}
use Rattle.headers.specs.declared.Unusable.TheVariants.{Empty, NoColumn, Twice, Returns, NoRow}
use Rattle.headers.specs.declared.Columns.{Columns}
use Rattle.headers.specs.declared.Header.{Header}
use Rattle.headers.specs.declared.Header.TheVariants.{Wait, Without, With}
use Rattle.headers.specs.Names.{is_space, spaces, starts_so, is_name}
use Rattle.headers.specs.Columns.{column_from, column_of, columns_of, one, six_columns, checked, known, again, twice_date, twice_six, twice, chosen}
use Rattle.headers.specs.Tables.{between, cell_at, cells_from}
use Rattle.headers.specs.Header.{own_of, row_cells, names_in, names_by, no_row, with_cells, with_row, header_in, header_by, on_names, header_row, mark_len, header_behind, header}

-- ---- names

-- a cell, and whether its name is `date`
pub record NameExample : Type 0 where
  pub cell : String
  pub says : Bool

abbrev pub name_table : List NameExample
name_table =
    record { cell = "date"; says = true }
    ∷ record { cell = "DATE"; says = true }
    ∷ record { cell = "\t dAtE \t "; says = true }
    ∷ record { cell = ""; says = false }
    ∷ record { cell = "dat"; says = false }
    ∷ record { cell = "dates"; says = false }
    ∷ record { cell = "da te"; says = false }
    ∷ record { cell = "date\n"; says = false }
    ∷ record { cell = "date_"; says = false }
    ∷ record { cell = "\"date\""; says = false }
    ∷ record { cell = "origdate"; says = false }
    ∷ []

pub names-hold : map (λ (e : NameExample). is_name (ascii "date") (ascii e.cell)) name_table ≡ map (λ (e : NameExample). e.says) name_table
unfolding is_name starts_so spaces is_space lower pick
names-hold = refl

-- a space that is not one of ASCII is none: U+00A0
pub no-break : is_name (ascii "date") (0xC2 ∷ 0xA0 ∷ ascii "date") ≡ false
unfolding is_name starts_so spaces is_space lower pick
no-break = refl

-- ---- columns

-- no column
abbrev none : Columns
none =
    record {
      date = 256;
      origdate = 256;
      eventdate = 256;
      urldate = 256;
      year = 256;
      month = 256;
      day = 256;
      endyear = 256;
      endmonth = 256;
      endday = 256;
      key = 256;
      id = 256;
    }

-- the first is the date
abbrev only_date : Columns
only_date =
    record {
      date = 0;
      origdate = 256;
      eventdate = 256;
      urldate = 256;
      year = 256;
      month = 256;
      day = 256;
      endyear = 256;
      endmonth = 256;
      endday = 256;
      key = 256;
      id = 256;
    }

-- the twelve names in the order in which they stand in a header, from the last column to the first
abbrev all_twelve : Columns
all_twelve =
    record {
      date = 11;
      origdate = 10;
      eventdate = 9;
      urldate = 8;
      year = 7;
      month = 6;
      day = 5;
      endyear = 4;
      endmonth = 3;
      endday = 2;
      key = 1;
      id = 0;
    }

abbrev twelve : List String
twelve =
    "id" ∷ "key" ∷ "endday" ∷ "endmonth" ∷ "endyear" ∷ "day" ∷ "month" ∷ "year" ∷ "urldate" ∷ "eventdate" ∷ "origdate" ∷ "date" ∷ []

pub twelve-columns : columns_of (map (λ (n : String). ascii n) twelve) ≡ all_twelve
unfolding columns_of column_of column_from is_name starts_so spaces is_space lower pick
twelve-columns = refl

-- how many there are: with the keys, and without
pub twelve-known : (known all_twelve ≡ 12) × (checked all_twelve ≡ 10) × (known none ≡ 0) × (known only_date ≡ 1)
unfolding known checked six_columns one pick
twelve-known = (refl, refl, refl, refl)

pub last-column : (one 255 ≡ 1) × (one 256 ≡ 0)
unfolding one pick
last-column = (refl, refl)

-- of a name that stands twice the first cell is the column
pub first-column : column_of (ascii "date") (ascii "x" ∷ ascii "date" ∷ ascii "Date" ∷ []) ≡ 1
unfolding column_of column_from is_name starts_so spaces is_space lower pick
first-column = refl

-- each of the twelve, twice in a header
pub each_twice : map (λ (n : String). twice (ascii n ∷ ascii n ∷ [])) twelve ≡ map (λ (n : String). true) twelve
unfolding twice twice_date twice_six again columns_of column_of column_from is_name starts_so spaces is_space lower pick
each_twice = refl

-- and each once
pub each-once : twice (map (λ (n : String). ascii n) twelve) ≡ false
unfolding twice twice_date twice_six again columns_of column_of column_from is_name starts_so spaces is_space lower pick
each-once = refl

-- in the first and in the last of 256 cells
abbrev empties : ℕ → List (List ℕ)
empties zero = []
empties (suc n) = [] ∷ empties n

pub first-and-last : again (ascii "id") 0 (ascii "id" ∷ (empties 254 ++ ascii "id" ∷ [])) ≡ true
unfolding again column_from is_name starts_so spaces is_space lower pick
first-and-last = refl

-- ---- the separator

-- by the names that there are by comma, semicolon and tab; of equals the first
pub record Chosen : Type 0 where
  pub comma : ℕ
  pub semicolon : ℕ
  pub tab : ℕ
  pub says : Separator

abbrev pub choices : List Chosen
choices =
    record { comma = 0; semicolon = 0; tab = 0; says = Comma }
    ∷ record { comma = 2; semicolon = 1; tab = 1; says = Comma }
    ∷ record { comma = 1; semicolon = 1; tab = 1; says = Comma }
    ∷ record { comma = 1; semicolon = 2; tab = 1; says = Semicolon }
    ∷ record { comma = 0; semicolon = 1; tab = 1; says = Semicolon }
    ∷ record { comma = 1; semicolon = 1; tab = 2; says = Tab }
    ∷ record { comma = 0; semicolon = 1; tab = 2; says = Tab }
    ∷ []

pub choices-hold : map (λ (e : Chosen). chosen e.comma e.semicolon e.tab) choices ≡ map (λ (e : Chosen). e.says) choices
unfolding chosen pick
choices-hold = refl

-- ---- cells by a table

abbrev zeros : ℕ → List ℕ
zeros zero = []
zeros (suc n) = 0 ∷ zeros n

-- the last cell of a table of 512 numbers, and none behind it
pub last-cell : (cell_at (ascii "abc") (zeros 510 ++ 1 ∷ 3 ∷ 0 ∷ 1 ∷ []) 255 ≡ ascii "bc") × (cell_at (ascii "abc") (zeros 510 ++ 1 ∷ 3 ∷ 0 ∷ 1 ∷ []) 256 ≡ [])
unfolding cell_at between pick
last-cell = (refl, refl)

-- places that are turned or behind the block are none
pub cells_of : cells_from (ascii "abc") (0 ∷ 1 ∷ 1 ∷ 3 ∷ 2 ∷ 1 ∷ 3 ∷ 4 ∷ []) 0 4 ≡ ascii "a" ∷ ascii "bc" ∷ [] ∷ [] ∷ []
unfolding cells_from cell_at between pick
cells_of = refl

-- ---- the byte order mark

pub marks : (mark_len (0xEF ∷ 0xBB ∷ 0xBF ∷ []) ≡ 3) × (mark_len (0xEF ∷ 0xBB ∷ []) ≡ 0) × (mark_len (0xEE ∷ 0xBB ∷ 0xBF ∷ []) ≡ 0) × (mark_len (0xEF ∷ 0xBA ∷ 0xBF ∷ []) ≡ 0) × (mark_len (0xEF ∷ 0xBB ∷ 0xBE ∷ []) ≡ 0)
unfolding mark_len pick
marks = (refl, refl, refl, refl, refl)

-- ---- files that are given whole

pub record Example : Type 0 where
  pub file : List ℕ
  pub says : Header

-- by each separator, behind a byte order mark, in quotes, in capitals with spaces and tabs; then what can not be used
abbrev pub files : List Example
files =
    record { file = ascii "date,x\n1949,"; says = With 7 Comma only_date 2 }
    ∷ record { file = ascii "date;x\r\n"; says = With 8 Semicolon only_date 2 }
    ∷ record { file = ascii "date\tx"; says = With 6 Tab only_date 2 }
    ∷ record { file = ascii "date\n"; says = With 5 Comma only_date 1 }
    ∷ record { file = 0xEF ∷ 0xBB ∷ 0xBF ∷ ascii "date;x,y\n"; says = With 12 Semicolon only_date 2 }
    ∷ record { file = ascii "\" Date\t\",\"x\ny\"\n"; says = With 15 Comma only_date 2 }
    ∷ record { file = []; says = Without Empty }
    ∷ record { file = 0xEF ∷ 0xBB ∷ 0xBF ∷ []; says = Without Empty }
    ∷ record { file = ascii "key,id,title\n"; says = Without NoColumn }
    ∷ record { file = ascii "\n"; says = Without NoColumn }
    ∷ record { file = ascii "date,x, DATE\n"; says = Without Twice }
    ∷ record { file = ascii "date\r1949\r"; says = Without Returns }
    ∷ record { file = ascii "da\"te\n"; says = Without (NoRow (Broken (QuoteInside 2))) }
    ∷ record { file = ascii "\"date\"x\n"; says = Without (NoRow (Broken (TextBehind 6))) }
    ∷ record { file = ascii "date,\"x\n"; says = Without (NoRow (Broken (NeverClosed 5))) }
    ∷ record { file = ascii "date," ++ 0xFF ∷ 10 ∷ []; says = Without (NoRow (BadUtf8 5)) }
    ∷ []

pub files-hold : map (λ (e : Example). header true e.file) files ≡ map (λ (e : Example). e.says) files
unfolding header header_behind header_row on_names header_by header_in with_row with_cells no_row names_by names_in row_cells own_of mark_len twice twice_date twice_six again known checked six_columns one chosen columns_of column_of column_from is_name starts_so spaces is_space lower own_bytes utf8_end utf8_from first decode decode2 decode3 decode4 len_of is_cont is_surrogate len_d is_stop is_special is up_to inner_len return_of stop_of closed plain_by quoted_by cell_of line_by line_from line window is_cut is_over place_of end_len counted row_by refused answer_by answer_of line_of answer pick
files-hold = refl

-- and of what is too long, or has too many cells
pub no_rows : (no_row (TooLong 7) ≡ NoRow (Broken (TooLong 7))) × (no_row TooMany ≡ NoRow (Broken TooMany)) × (no_row (LoneReturn 7) ≡ Returns)
unfolding no_row
no_rows = (refl, refl, refl)

-- ---- blocks that the file goes on behind: three bytes are waited for, and the end of the line
abbrev pub blocks : List Example
blocks =
    record { file = []; says = Wait }
    ∷ record { file = 0xEF ∷ 0xBB ∷ []; says = Wait }
    ∷ record { file = 10 ∷ 10 ∷ []; says = Wait }
    ∷ record { file = 10 ∷ 10 ∷ 10 ∷ []; says = Without NoColumn }
    ∷ record { file = ascii "date"; says = Wait }
    ∷ record { file = ascii "date\r"; says = Wait }
    ∷ record { file = ascii "date\n"; says = With 5 Comma only_date 1 }
    ∷ []

pub blocks-hold : map (λ (e : Example). header false e.file) blocks ≡ map (λ (e : Example). e.says) blocks
unfolding header header_behind header_row on_names header_by header_in with_row with_cells no_row names_by names_in row_cells own_of mark_len twice twice_date twice_six again known checked six_columns one chosen columns_of column_of column_from is_name starts_so spaces is_space lower own_bytes utf8_end utf8_from first decode decode2 decode3 decode4 len_of is_cont is_surrogate len_d is_stop is_special is up_to inner_len return_of stop_of closed plain_by quoted_by cell_of line_by line_from line window is_cut is_over place_of end_len counted row_by refused answer_by answer_of line_of answer pick
blocks-hold = refl
