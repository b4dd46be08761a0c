-- The checks of a chunk list before it is read, in their order: the table, the limits, then the characters of each chunk.
use Rattle.std.specs.Prelude.{ℕ, ◌+◌, List, [], ◌∷◌, take, drop, Result, Ok, Err}
use Rattle.chars.specs.Pick.{pick}
use Rattle.chars.specs.Classes.{is_admitted}
use Rattle.chars.specs.declared.Decoded.{Decoded}
use Rattle.chars.specs.declared.Decoded.TheVariants.{Char, Bad, End}
use Rattle.refusals.specs.declared.Kind.TheVariants.{BadUtf8, UnsupportedChar, BadChunks, TooLong}
use Rattle.refusals.specs.Refusal.{file_span, refusal, bytes_at}
use Rattle.refusals.specs.declared.Refusal.{Refusal}
use Rattle.chunks.specs.Characters.{characters}
use Rattle.chunks.specs.Chunks.{Chunk, chunks_of, fits, is_short}

-- the first fault among characters that start at a place of the lent bytes: an ill-formed sequence has its first byte and one more
-- for its place, a character that is not read its own bytes
unfoldable pub fault_in : ℕ → List Decoded → Result (Unit {0}) Refusal
fault_in p [] = Ok tt
fault_in p (Char code len ∷ rest) =
    pick (is_admitted code) (fault_in (p + len) rest) (Err (bytes_at UnsupportedChar p (p + len)))
fault_in p (Bad ∷ rest) = Err (bytes_at BadUtf8 p (p + 1))
fault_in p (End ∷ rest) = Ok tt

-- a fault, or else what is found behind it
unfoldable pub or_else : Result (Unit {0}) Refusal → Result (Unit {0}) Refusal → Result (Unit {0}) Refusal
or_else (Ok tt) next = next
or_else (Err e) next = Err e

-- the first fault of chunks whose bytes start at a place of the lent bytes, each chunk by itself
unfoldable pub fault_of : ℕ → List ℕ → List Chunk → Result (Unit {0}) Refusal
fault_of p b [] = Ok tt
fault_of p b (c ∷ cs) = or_else (fault_in p (characters (take c.len b))) (fault_of (p + c.len) (drop c.len b) cs)

-- the first fault of a list
unfoldable pub checked : List ℕ → List ℕ → Result (Unit {0}) Refusal
checked b table =
    pick (fits b table)
    (pick (is_short b table) (fault_of 0 b (chunks_of table)) (Err (refusal TooLong (file_span 0 0))))
    (Err (refusal BadChunks (file_span 0 0)))
