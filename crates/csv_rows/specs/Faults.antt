-- What is wrong with a row, as derivations: good cells with a separator behind each, and then a cell that is wrong. The text is the file's
-- from the row's front on.
use Rattle.std.specs.Prelude.{◌≡◌, false, List, [], ◌∷◌, ◌++◌, ℕ, ◌+◌, ◌≤◌, ◌<◌, length, take}
use Rattle.csv_rows.specs.declared.Fault.{Fault}
use Rattle.csv_rows.specs.declared.Fault.TheVariants.{QuoteInside, TextBehind, LoneReturn, NeverClosed, TooLong, TooMany}
use Rattle.csv_rows.specs.Reader.{is_special, is, Place}
use Rattle.csv_rows.specs.Grammar.{Plain, Inner, OneCell, RowAt}

-- good cells, each with a separator behind it
pub data Leading (sep : ℕ) : ℕ → List ℕ → List Place → Type 0 where
  no_cells : {at : ℕ} → Leading sep at [] []
  and_cell : {at : ℕ} {s t u : List ℕ} {c : Place} {cs : List Place} → OneCell sep at s c t → Leading sep (at + length s + 1) u cs → Leading sep at (s ++ sep ∷ u) (c ∷ cs)

-- a wrong cell at the front of what stands from a place on: a quote behind other bytes of a plain cell; behind a closing quote a byte that is
-- neither special nor doubles it; behind a cell a carriage return that no line feed follows; quotes that are all doubled but for the first
pub data WrongCell (sep at : ℕ) : List ℕ → Fault → Type 0 where
  quote_inside : {s : List ℕ} (u : List ℕ) → Plain sep s → 0 < length s → WrongCell sep at (s ++ 34 ∷ u) (QuoteInside (at + length s))
  text_behind : {s t : List ℕ} (b : ℕ) (u : List ℕ) → Inner s t → is_special sep b ≡ false → WrongCell sep at ((34 ∷ s ++ 34 ∷ []) ++ b ∷ u) (TextBehind (at + length (34 ∷ s ++ 34 ∷ [])))
  lone_return : {s t : List ℕ} {c : Place} (u : List ℕ) → OneCell sep at s c t → is 10 u ≡ false → WrongCell sep at (s ++ 13 ∷ u) (LoneReturn (at + length s))
  never_closed : {s t : List ℕ} → Inner s t → WrongCell sep at (34 ∷ s) (NeverClosed at)

-- a row with a fault at the front of a file's text, and the good cells before the fault
pub data FaultAt (sep : ℕ) : List ℕ → List Place → Fault → Type 0 where
  fault : {s u : List ℕ} {cs : List Place} {f : Fault} → Leading sep 0 s cs → WrongCell sep (length s) u f → FaultAt sep (s ++ u) cs f

-- a cell whose end is not seen, as the bytes end: within it or just behind it; within its line end; or within its quotes
pub data OpenCell (sep at : ℕ) : List ℕ → Type 0 where
  no_end : {s t : List ℕ} {c : Place} → OneCell sep at s c t → OpenCell sep at s
  half_end : {s t : List ℕ} {c : Place} → OneCell sep at s c t → OpenCell sep at (s ++ 13 ∷ [])
  no_quote : {s t : List ℕ} → Inner s t → OpenCell sep at (34 ∷ s)

-- a row that has neither ended nor met a fault as the bytes end: the good cells, and the place where the last one begins
pub data OpenAt (sep : ℕ) : List ℕ → List Place → ℕ → Type 0 where
  unended : {s u : List ℕ} {cs : List Place} → Leading sep 0 s cs → OpenCell sep (length s) u → OpenAt sep (s ++ u) cs (length s)

-- a row of a file that neither ends nor meets a fault within 65,536 bytes, and the place where the last cell that begins there begins
pub record TooFar (sep : ℕ) (s : List ℕ) (p : ℕ) : Type 0 where
  -- the good cells
  pub cells : List Place
  -- the file is longer
  pub long : 65536 < length s
  -- and so many of its bytes do not end the row
  pub unended_in : OpenAt sep (take 65536 s) cells p

-- why the row at the front of a file's text is refused: it goes on behind 65,536 bytes; it does not, and there is a fault; it has too many cells
pub data Reason (sep : ℕ) (s : List ℕ) : Fault → Type 0 where
  by_length : {p : ℕ} → TooFar sep s p → Reason sep s (TooLong p)
  by_fault : {cs : List Place} {f : Fault} → FaultAt sep s cs f → ((p : ℕ) → TooFar sep s p → ⊥) → Reason sep s f
  by_count : {r : List ℕ} {cs : List Place} {ts : List (List ℕ)} → RowAt sep s r cs ts → 256 < length cs → length s ≤ 65536 + length r → Reason sep s TooMany
