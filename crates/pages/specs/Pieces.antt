-- All pieces: what is answered, and what the lent table of ranges holds then.
use Rattle.std.specs.Prelude.{ℕ, ◌+◌, ◌*◌, ◌≤◌, ◌≡◌, Bool, true, false, ◌&&◌, List, [], ◌∷◌, leb, eqb, length, get_or, take, drop, Result, Ok, Err}
use Rattle.std.proofs.lemmas.List.Edits.{sets}
use Rattle.chars.specs.Pick.{pick}
use Rattle.refusals.specs.declared.Kind.{Kind}
use Rattle.refusals.specs.declared.Kind.TheVariants.{TooLong, BadChunks, NoRoom}
use Rattle.refusals.specs.Refusal.{nowhere}
use Rattle.chunks.specs.Lent.{Lent}
use Rattle.chunks.specs.Chunks.{chunks_of, lengths}
use Rattle.refusals.specs.declared.Refusal.{Refusal}
use Rattle.pages.specs.declared.Taken.{Taken}
use Rattle.pages.specs.Piece.{piece}

-- the sum of the counts: a sum of numbers, which does not wrap
unfoldable pub total : List ℕ → ℕ
total [] = 0
total (n ∷ ns) = n + total ns

-- whether the counts make up the table, four numbers a chunk, and the lengths of all chunks the bytes
unfoldable pub adds_up : List ℕ → List ℕ → List ℕ → Bool
adds_up b table counts = eqb (4 * total counts) (length table) && eqb (lengths (chunks_of table)) (length b)

-- how many bytes the first n chunks have
unfoldable pub size_of : ℕ → List ℕ → ℕ
size_of n table = lengths (chunks_of (take (4 * n) table))

-- the piece of the first n chunks
unfoldable pub first_of : ℕ → List ℕ → List ℕ → Lent
first_of n b table = record { bytes = take (size_of n table) b; table = take (4 * n) table }

-- the pieces, one behind the other: each has the chunks that its count says, and their bytes
unfoldable pub pieces_of : List ℕ → List ℕ → List ℕ → List Lent
pieces_of b table [] = []
pieces_of b table (n ∷ ns) = first_of n b table ∷ pieces_of (drop (size_of n table) b) (drop (4 * n) table) ns

-- the piece of a number, counted from 0; behind the last there is an empty one
unfoldable pub piece_at : List ℕ → List ℕ → List ℕ → ℕ → Lent
piece_at b table counts i = get_or (pieces_of b table counts) i (record { bytes = []; table = [] })

-- what a piece says by itself
unfoldable pub said : Lent → Result (ℕ × ℕ) Refusal
said p = piece p.bytes p.table

-- what the first piece says, with how many bytes it has
unfoldable pub step_of : ℕ → List ℕ → List ℕ → Taken
step_of n b table = record { read = said (first_of n b table); len = size_of n table }

-- whether what a piece says is a range
unfoldable pub is_range : Result (ℕ × ℕ) Refusal → Bool
is_range (Ok (start, end)) = true
is_range (Err e) = false

-- a piece that is a range goes on; a refused one decides
unfoldable pub on_range : Result (ℕ × ℕ) Refusal → Result ℕ Refusal → Result ℕ Refusal
on_range (Ok (start, end)) rest = rest
on_range (Err e) rest = Err e

-- so many ranges, or the refusal of the first piece that is refused
unfoldable pub judged : ℕ → List Lent → Result ℕ Refusal
judged all [] = Ok all
judged all (p ∷ ps) = on_range (said p) (judged all ps)

-- the two numbers of a range
unfoldable pub numbers_of : Result (ℕ × ℕ) Refusal → List ℕ
numbers_of (Ok (start, end)) = start ∷ end ∷ []
numbers_of (Err e) = []

-- a table of ranges with the numbers of each piece stored in turn, from a piece's place on
unfoldable pub put : ℕ → List Lent → List ℕ → List ℕ
put i [] out = out
put i (p ∷ ps) out = put (i + 1) ps (sets out (2 * i) (numbers_of (said p)))

-- a refusal that names no place
unfoldable pub refused_pages : Kind → Result ℕ Refusal
refused_pages k = Err (nowhere k)

-- the limits, the shape and the room, as they must be
abbrev pub PiecesFit : List ℕ → List ℕ → List ℕ → ℕ → Type 0
PiecesFit b table counts room = (length counts ≤ 64) × (adds_up b table counts ≡ true) × (2 * length counts ≤ room)

-- the limits, the shape and the room come before the pieces
unfoldable pub pages_answer : List ℕ → List ℕ → List ℕ → ℕ → Result ℕ Refusal
pages_answer b table counts room =
    pick (leb (length counts) 64)
    (pick (adds_up b table counts)
    (pick (leb (2 * length counts) room) (judged (length counts) (pieces_of b table counts)) (refused_pages NoRoom))
    (refused_pages BadChunks))
    (refused_pages TooLong)

-- the lent table after an answer
unfoldable pub table_after : Result ℕ Refusal → List ℕ → List ℕ → List ℕ
table_after (Ok n) new old = new
table_after (Err e) new old = old

-- the lent table afterwards: two numbers a piece at its front; after a refusal nothing has changed
unfoldable pub pages_afterwards : List ℕ → List ℕ → List ℕ → List ℕ → List ℕ
pages_afterwards b table counts out = table_after (pages_answer b table counts (length out)) (put 0 (pieces_of b table counts) out) out
