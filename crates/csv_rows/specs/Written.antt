-- Rows as they are written, and files of rows.
use Rattle.std.specs.Prelude.{ℕ, ◌<◌, Bool, false, ◌||◌, List, [], ◌∷◌, ◌++◌, eqb, length}
use Rattle.chars.specs.Pick.{pick}
use Rattle.csv_rows.specs.Reader.{is_special, Place}
use Rattle.csv_rows.specs.Grammar.{RowAt}

-- each quote doubled
unfoldable pub doubles : List ℕ → List ℕ
doubles [] = []
doubles (b ∷ t) = pick (eqb b 34) (34 ∷ 34 ∷ doubles t) (b ∷ doubles t)

-- whether a text has a byte that no plain cell has
unfoldable pub any_special : ℕ → List ℕ → Bool
any_special sep [] = false
any_special sep (b ∷ t) = is_special sep b || any_special sep t

-- a cell: in quotes only if it must be
unfoldable pub cell_text : ℕ → List ℕ → List ℕ
cell_text sep t = pick (any_special sep t) (34 ∷ doubles t ++ 34 ∷ []) t

-- the cells of a row, the first one given by itself
unfoldable pub cells_text : ℕ → List ℕ → List (List ℕ) → List ℕ
cells_text sep t [] = cell_text sep t
cells_text sep t (u ∷ ts) = cell_text sep t ++ sep ∷ cells_text sep u ts

-- a row of texts: a first cell and the others
pub record Texts : Type 0 where
  -- the first cell
  pub head : List ℕ
  -- the others
  pub tail : List (List ℕ)

-- a file of rows, each with its line end
unfoldable pub file_text : ℕ → List Texts → List ℕ
file_text sep [] = []
file_text sep (l ∷ ls) = (cells_text sep l.head l.tail ++ 13 ∷ 10 ∷ []) ++ file_text sep ls

-- the texts of rows
unfoldable pub rows_of : List Texts → List (List (List ℕ))
rows_of [] = []
rows_of (l ∷ ls) = (l.head ∷ l.tail) ∷ rows_of ls

-- a file is rows up to its end
pub data FileOf (sep : ℕ) : List ℕ → List (List (List ℕ)) → Type 0 where
  no_rows : FileOf sep [] []
  rows : {s r : List ℕ} {cs : List Place} {ts : List (List ℕ)} {rs : List (List (List ℕ))} → 0 < length s → RowAt sep s r cs ts → FileOf sep r rs → FileOf sep s (ts ∷ rs)
