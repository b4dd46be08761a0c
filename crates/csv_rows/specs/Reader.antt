-- The reading of a row's cells, from the left, up to the first fault. `over` says that the file ends behind the bytes given.
use Rattle.std.specs.Prelude.{ℕ, zero, suc, ◌+◌, ◌-◌, Bool, true, false, ◌||◌, List, [], ◌∷◌, eqb, ltb, length, drop}
use Rattle.chars.specs.Pick.{pick}
use Rattle.csv_rows.specs.declared.Separator.{Separator}
use Rattle.csv_rows.specs.declared.Separator.TheVariants.{Comma, Semicolon, Tab}
use Rattle.csv_rows.specs.declared.Fault.{Fault}
use Rattle.csv_rows.specs.declared.Fault.TheVariants.{QuoteInside, TextBehind, LoneReturn, NeverClosed}
use Rattle.csv_rows.specs.declared.Stop.{Stop}
use Rattle.csv_rows.specs.declared.Stop.TheVariants.{Ends, Lone, Other, Unsure}
use Rattle.csv_rows.specs.declared.CellRead.{CellRead}
use Rattle.csv_rows.specs.declared.CellRead.TheVariants.{Good, Wrong, Unclear}
use Rattle.csv_rows.specs.declared.Ending.{Ending}
use Rattle.csv_rows.specs.declared.Ending.TheVariants.{Through, Fails, Open}

-- the byte of a separator
abbrev pub byte_of : Separator → ℕ
byte_of Comma = 44
byte_of Semicolon = 59
byte_of Tab = 9

-- a separator or a line feed
unfoldable pub is_stop : ℕ → ℕ → Bool
is_stop sep b = eqb b sep || eqb b 10

-- a byte that no plain cell has: a separator, a line feed, a quote, a carriage return
unfoldable pub is_special : ℕ → ℕ → Bool
is_special sep b = (eqb b sep || eqb b 10) || (eqb b 34 || eqb b 13)

-- this byte
abbrev pub equal : ℕ → ℕ → Bool
equal c b = eqb b c

-- this byte stands at the front
unfoldable pub is : ℕ → List ℕ → Bool
is c [] = false
is c (b ∷ s) = eqb b c

-- how many bytes stand before the first of such a kind, or before the end
unfoldable pub up_to : (ℕ → Bool) → List ℕ → ℕ
up_to p [] = 0
up_to p (b ∷ s) = pick (p b) 0 (suc (up_to p s))

-- how many bytes stand before the first quote that is not doubled, or before the end
unfoldable pub inner_len : List ℕ → ℕ
inner_len [] = 0
inner_len (b ∷ []) = pick (eqb b 34) 0 1
inner_len (b ∷ c ∷ s) = pick (eqb b 34) (pick (eqb c 34) (suc (suc (inner_len s))) 0) (suc (inner_len (c ∷ s)))

-- what a carriage return is, by what stands behind it: part of a line end, or a lone one
unfoldable pub return_of : Bool → List ℕ → Stop
return_of over [] = pick over Lone Unsure
return_of over (b ∷ s) = pick (eqb b 10) Ends Lone

-- whether a cell may end before what stands here: a separator, a line feed, a carriage return and a line feed, or the end of the file
unfoldable pub stop_of : Bool → ℕ → List ℕ → Stop
stop_of over sep [] = pick over Ends Unsure
stop_of over sep (b ∷ s) = pick (is_stop sep b) Ends (pick (eqb b 13) (return_of over s) Other)

-- a cell by what stands behind it: its own bytes are from `start` up to `stop`, and it ends before `next`; f is the fault of another byte there
unfoldable pub closed : Stop → ℕ → ℕ → ℕ → Fault → CellRead
closed Ends start stop next f = Good start stop next
closed Lone start stop next f = Wrong (LoneReturn next)
closed Other start stop next f = Wrong f
closed Unsure start stop next f = Unclear

-- a plain cell of n bytes, at the place `at`, where t stands
unfoldable pub plain_by : Bool → ℕ → ℕ → List ℕ → ℕ → CellRead
plain_by over sep at t n = closed (stop_of over sep (drop n t)) at (at + n) (at + n) (QuoteInside (at + n))

-- a quoted cell with n bytes between its quotes, of which the first is at the place `at`; t stands behind that
unfoldable pub quoted_by : Bool → ℕ → ℕ → List ℕ → ℕ → CellRead
quoted_by over sep at t n =
    pick (ltb n (length t))
    (closed (stop_of over sep (drop (suc n) t)) (at + 1) (at + 1 + n) (at + 1 + n + 1) (TextBehind (at + 1 + n + 1)))
    (pick over (Wrong (NeverClosed at)) Unclear)

-- the cell at a place, by what stands from there on
unfoldable pub cell_of : Bool → ℕ → ℕ → List ℕ → CellRead
cell_of over sep at [] = plain_by over sep at [] 0
cell_of over sep at (b ∷ t) = pick (eqb b 34) (quoted_by over sep at t (inner_len t)) (plain_by over sep at (b ∷ t) (up_to (is_special sep) (b ∷ t)))

-- the place behind a cell
abbrev pub behind : CellRead → ℕ → ℕ
behind (Good start stop next) at = next
behind (Wrong f) at = at
behind Unclear at = at

-- where the own bytes of a cell stand
pub record Place : Type 0 where
  -- its first byte
  pub start : ℕ
  -- the place behind its last byte
  pub stop : ℕ

-- the good cells of a row, and how its reading ends: behind the last cell, with a fault, or within the cell that begins at a place
pub record Line : Type 0 where
  -- where the cells stand
  pub cells : List Place
  -- how it ends
  pub ending : Ending

-- a cell at a place and, if a separator follows it, the line behind that
unfoldable pub line_by : CellRead → Bool → ℕ → Line → Line
line_by (Good start stop next) true at l = record { cells = record { start = start; stop = stop } ∷ l.cells; ending = l.ending }
line_by (Good start stop next) false at l = record { cells = record { start = start; stop = stop } ∷ []; ending = Through next }
line_by (Wrong f) more at l = record { cells = []; ending = Fails f }
line_by Unclear more at l = record { cells = []; ending = Open at }

-- the line from the place behind k bytes on: a cell, and behind a separator the cells that follow
unfoldable pub line_from : Bool → ℕ → ℕ → ℕ → List ℕ → Line
line_from over sep k at [] = line_by (cell_of over sep (at + k) []) false (at + k) (record { cells = []; ending = Open at })
line_from over sep zero at (b ∷ t) =
    line_by (cell_of over sep at (b ∷ t)) (is sep (drop (behind (cell_of over sep at (b ∷ t)) at - at) (b ∷ t))) at
    (line_from over sep (behind (cell_of over sep at (b ∷ t)) at - at) (at + 1) t)
line_from over sep (suc k) at (b ∷ t) = line_from over sep k (at + 1) t

-- the line at the front
unfoldable pub line : Bool → ℕ → List ℕ → Line
line over sep s = line_from over sep 0 0 s
