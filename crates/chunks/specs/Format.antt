-- The formatted text of a chunk list. The flag says whether the previous character was white space; it is clear at first.
use Prim.Native.Char.{code}
use Rattle.std.specs.Prelude.{ℕ, Bool, false, ◌||◌, List, [], ◌∷◌, ◌++◌, eqb, take, drop}
use Rattle.chars.specs.Pick.{pick}
use Rattle.chars.specs.Utf8.{encode}
use Rattle.chars.specs.Classes.{is_whitespace}
use Rattle.chunks.specs.Characters.{codes}
use Rattle.chunks.specs.Chunks.{Chunk, chunks_of}

-- a line feed or a carriage return
unfoldable pub is_break : ℕ → Bool
is_break c = eqb c 0x0A || eqb c 0x0D

-- what a character of a Normal chunk puts out: a line break becomes a space, or is dropped if the flag is set
unfoldable pub one_out : Bool → ℕ → List ℕ
one_out white c = pick (is_break c) (pick white [] (code " " ∷ [])) (encode c)

-- what the characters of a Normal chunk put out: each sets the flag anew, and a line break, which is white space, sets it even if dropped
unfoldable pub normal : Bool → List ℕ → List ℕ
normal white [] = []
normal white (c ∷ cs) = one_out white c ++ normal (is_whitespace c) cs

-- whether the last character is white space; with no character, what was said before
unfoldable pub last_white : Bool → List ℕ → Bool
last_white white [] = white
last_white white (c ∷ cs) = last_white (is_whitespace c) cs

-- what a chunk puts out: Normal by its characters, Verbatim as it is, Math between two dollar signs
unfoldable pub chunk_out : Bool → ℕ → List ℕ → List ℕ
chunk_out white kind t = pick (eqb kind 0) (normal white (codes t)) (pick (eqb kind 1) t (code "$" ∷ (t ++ code "$" ∷ [])))

-- the flag behind it: of Normal that of its last character, left if it is empty; of Verbatim the same, false if it is empty; Math leaves it
unfoldable pub chunk_flag : Bool → ℕ → List ℕ → Bool
chunk_flag white kind t = pick (eqb kind 0) (last_white white (codes t)) (pick (eqb kind 1) (last_white false (codes t)) white)

-- what chunks put out, one behind the other
unfoldable pub chunks_out : Bool → List ℕ → List Chunk → List ℕ
chunks_out white b [] = []
chunks_out white b (c ∷ cs) =
    chunk_out white c.kind (take c.len b) ++ chunks_out (chunk_flag white c.kind (take c.len b)) (drop c.len b) cs

-- a list starts with the flag clear: a line break at its front becomes a space
unfoldable pub formatted : List ℕ → List ℕ → List ℕ
formatted b table = chunks_out false b (chunks_of table)
