-- Rows of CSV (RFC 4180), as derivations: a value of `RowAt sep s r cs ts` is a derivation of a row at the front of the file's text s.
-- r is the text behind the row, where the next one starts, cs says where the cells stand, and ts what their texts are.
use Rattle.std.specs.Prelude.{◌≡◌, false, List, [], ◌∷◌, ◌++◌, ℕ, ◌+◌, ◌≤◌, ◌<◌, eqb, length}
use Rattle.csv_rows.specs.Reader.{is_special, Place}

-- bytes without a quote, a separator, CR and LF
pub data Plain (sep : ℕ) : List ℕ → Type 0 where
  none : Plain sep []
  byte : {b : ℕ} {s : List ℕ} → is_special sep b ≡ false → Plain sep s → Plain sep (b ∷ s)

-- what stands between quotes, and the text that it is: each quote is doubled
pub data Inner : List ℕ → List ℕ → Type 0 where
  nothing : Inner [] []
  other : {b : ℕ} {s t : List ℕ} → eqb b 34 ≡ false → Inner s t → Inner (b ∷ s) (b ∷ t)
  doubled : {s t : List ℕ} → Inner s t → Inner (34 ∷ 34 ∷ s) (34 ∷ t)

-- a cell that starts at a place: its bytes, where its own ones stand, and its text
pub data OneCell (sep at : ℕ) : List ℕ → Place → List ℕ → Type 0 where
  plain : {s : List ℕ} → Plain sep s → OneCell sep at s (record { start = at; stop = at + length s }) s
  quoted : {s t : List ℕ} → Inner s t → OneCell sep at (34 ∷ s ++ 34 ∷ []) (record { start = at + 1; stop = at + 1 + length s }) t

-- cells with a separator between each two, where they stand, and their texts
pub data Cells (sep : ℕ) : ℕ → List ℕ → List Place → List (List ℕ) → Type 0 where
  one : {at : ℕ} {s t : List ℕ} {c : Place} → OneCell sep at s c t → Cells sep at s (c ∷ []) (t ∷ [])
  more : {at : ℕ} {s t u : List ℕ} {c : Place} {cs : List Place} {ts : List (List ℕ)}
      → OneCell sep at s c t → Cells sep (at + length s + 1) u cs ts → Cells sep at (s ++ sep ∷ u) (c ∷ cs) (t ∷ ts)

-- LF, CR LF or the end of the file, and what stands behind it
pub data LineEnd : List ℕ → List ℕ → Type 0 where
  feed : {r : List ℕ} → LineEnd (10 ∷ r) r
  return_feed : {r : List ℕ} → LineEnd (13 ∷ 10 ∷ r) r
  file_end : LineEnd [] []

-- a row at the front of a text: what is left behind it, where its cells stand, and their texts
pub data RowAt (sep : ℕ) : List ℕ → List ℕ → List Place → List (List ℕ) → Type 0 where
  row : {s e r : List ℕ} {cs : List Place} {ts : List (List ℕ)} → Cells sep 0 s cs ts → LineEnd e r → RowAt sep (s ++ e) r cs ts

-- a row within the limits, at the front of a file that has bytes: of so many bytes, at most 65,536, and so many cells, at most 256
pub record Limited (sep : ℕ) (s : List ℕ) (end count : ℕ) : Type 0 where
  -- what stands behind it
  pub rest : List ℕ
  -- where its cells stand
  pub places : List Place
  -- their texts
  pub texts : List (List ℕ)
  -- the derivation
  pub is_row : RowAt sep s rest places texts
  -- the file has bytes
  pub some : 0 < length s
  -- the number of cells
  pub counted : length places ≡ count
  -- the limit of cells
  pub few : count ≤ 256
  -- the number of bytes
  pub measured : end + length rest ≡ length s
  -- the limit of bytes
  pub short : end ≤ 65536
