-- Lists whose text is their bytes as they stand: nothing need be copied.
use Prim.Native.Char.{code}
use Rattle.std.specs.Prelude.{ℕ, Bool, true, not, ◌&&◌, List, [], ◌∷◌, ltb, leb}
use Rattle.chunks.specs.Chunks.{chunks_of, fits, is_short, no_math}

-- whether a byte is put as it is: above the line breaks, ASCII, and no lower-case letter where upper case is asked
unfoldable pub is_standing : Bool → ℕ → Bool
is_standing upper b = (ltb 0x0D b && ltb b 0x80) && not (upper && (leb (code "a") b && leb b (code "z")))

-- whether each byte is
unfoldable pub all_standing : Bool → List ℕ → Bool
all_standing upper [] = true
all_standing upper (b ∷ t) = is_standing upper b && all_standing upper t

-- whether a list's text is its bytes, by its table and each byte: the table fits, the limits are kept, and no chunk is Math
unfoldable pub list_stands : Bool → List ℕ → List ℕ → Bool
list_stands upper b table = fits b table && (is_short b table && (no_math (chunks_of table) && all_standing upper b))
