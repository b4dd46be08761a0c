-- What is answered of the row at the front of a block. `last` says that the file ends behind the block; `cut`, that the block is longer than
-- the window, which has as many bytes as a row may have.
use Rattle.std.specs.Prelude.{ℕ, ◌+◌, ◌≤◌, Bool, ◌&&◌, not, List, [], ◌∷◌, eqb, leb, ltb, length, get_or, take, drop}
use Rattle.std.proofs.lemmas.List.Edits.{sets}
use Rattle.chars.specs.Pick.{pick}
use Rattle.csv_rows.specs.declared.Fault.{Fault}
use Rattle.csv_rows.specs.declared.Fault.TheVariants.{QuoteInside, TextBehind, LoneReturn, NeverClosed, TooLong, TooMany}
use Rattle.csv_rows.specs.declared.Ending.{Ending}
use Rattle.csv_rows.specs.declared.Ending.TheVariants.{Through, Fails, Open}
use Rattle.csv_rows.specs.declared.RowRead.{RowRead}
use Rattle.csv_rows.specs.declared.RowRead.TheVariants.{Row, Faulty, Endless, More, Nothing}
use Rattle.csv_rows.specs.declared.Skipped.{Skipped}
use Rattle.csv_rows.specs.declared.Skipped.TheVariants.{Ended, On, Wait, Over}
use Rattle.csv_rows.specs.Reader.{equal, up_to, Place, Line, line}

-- as much of a block as a row may have
unfoldable pub window : List ℕ → List ℕ
window s = take 65536 s

-- the block is longer
unfoldable pub is_cut : List ℕ → Bool
is_cut s = ltb 65536 (length s)

-- the file ends behind the window
unfoldable pub is_over : Bool → Bool → Bool
is_over last cut = last && not cut

-- where a fault stands; a row of too many cells has no such place
unfoldable pub place_of : Fault → ℕ
place_of (QuoteInside p) = p
place_of (TextBehind p) = p
place_of (LoneReturn p) = p
place_of (NeverClosed p) = p
place_of (TooLong p) = p
place_of TooMany = 0

-- how long the line end is that stands here: a line feed, a carriage return and a line feed, or the end of the file
unfoldable pub end_len : List ℕ → ℕ
end_len [] = 0
end_len (b ∷ t) = pick (eqb b 10) 1 2

-- the place of the first line feed from a place on, or the end
abbrev pub feed_from : ℕ → List ℕ → ℕ
feed_from p w = p + up_to (equal 10) (drop p w)

-- a row of so many cells that ends at a place, if they are not too many
unfoldable pub counted : ℕ → ℕ → RowRead
counted count end = pick (leb count 256) (Row end count) (Faulty end TooMany)

-- a row that was read through: the last cell ends before `next`
unfoldable pub row_by : List ℕ → ℕ → ℕ → RowRead
row_by w count next = pick (eqb (length w) 0) Nothing (counted count (next + end_len (drop next w)))

-- a row with a fault: it ends behind the first line feed from the fault's place on
unfoldable pub refused : Bool → Bool → List ℕ → Fault → RowRead
refused last cut w f =
    pick (ltb (feed_from (place_of f) w) (length w)) (Faulty (feed_from (place_of f) w + 1) f) (pick cut (Endless f) (pick last (Faulty (length w) f) More))

-- the answer by how many cells were read, and how that ended
unfoldable pub answer_by : Bool → Bool → List ℕ → ℕ → Ending → RowRead
answer_by last cut w count (Through next) = row_by w count next
answer_by last cut w count (Fails f) = refused last cut w f
answer_by last cut w count (Open at) = pick cut (refused last cut w (TooLong at)) More

-- the answer by a line
unfoldable pub answer_of : Bool → Bool → List ℕ → Line → RowRead
answer_of last cut w l = answer_by last cut w (length l.cells) l.ending

-- the place of the cell of a number, of cells that are counted from 0
abbrev pub place_at : List Place → ℕ → Place
place_at cs i = get_or cs i (record { start = 0; stop = 0 })

-- the numbers of cells as they stand in a table: start and stop
unfoldable pub numbers : List Place → List ℕ
numbers [] = []
numbers (c ∷ cs) = c.start ∷ c.stop ∷ numbers cs

-- a table with the first cells of a line at its front, as many as it has room for
unfoldable pub listed : Line → List ℕ → List ℕ
listed l table = sets table 0 (numbers (take 256 l.cells))

-- cells that stand one behind the other, with a byte between each two, from one place up to another
pub data InOrder : ℕ → ℕ → List Place → Type 0 where
  no_cell : {low high : ℕ} → InOrder low high []
  then_cell : {low high : ℕ} {c : Place} {cs : List Place} → low ≤ c.start → c.start ≤ c.stop → c.stop ≤ high → InOrder (c.stop + 1) high cs → InOrder low high (c ∷ cs)

-- the line at the front of a block
unfoldable pub line_of : ℕ → Bool → List ℕ → Line
line_of sep last s = line (is_over last (is_cut s)) sep (window s)

-- the answer for the row at the front of a block
unfoldable pub answer : ℕ → Bool → List ℕ → RowRead
answer sep last s = answer_of last (is_cut s) (window s) (line_of sep last s)

-- an answer that refuses a row for a fault
pub data Says (f : Fault) : RowRead → Type 0 where
  says_faulty : {end : ℕ} → Says f (Faulty end f)
  says_endless : Says f (Endless f)

-- the table after that answer
unfoldable pub table_after : ℕ → Bool → List ℕ → List ℕ → List ℕ
table_after sep last s table = listed (line_of sep last s) table

-- what is answered where the rest of a line is skipped: it ends behind the first line feed of the window
unfoldable pub skipped : Bool → List ℕ → Skipped
skipped last s =
    pick (ltb (feed_from 0 (window s)) (length (window s))) (Ended (feed_from 0 (window s) + 1))
    (pick (leb 65536 (length s)) On (pick last (pick (eqb (length s) 0) Over (Ended (length s))) Wait))
