-- The usual list, one Normal chunk of ASCII, in one pass. What this gives is proved to be what the definitions of `Format` and `Upper`
-- give. No public contract rests on it.
use Prim.Native.Char.{code}
use Rattle.std.specs.Prelude.{ℕ, ◌-◌, Bool, true, ◌&&◌, List, [], ◌∷◌, ◌++◌, ltb, leb, eqb, length, get_or}
use Rattle.chars.specs.Pick.{pick}
use Rattle.chars.specs.Classes.{is_whitespace}
use Rattle.chunks.specs.Format.{is_break}

-- each byte is then a character by itself, and one that is read
unfoldable pub all_ascii : List ℕ → Bool
all_ascii [] = true
all_ascii (b ∷ t) = ltb b 0x80 && all_ascii t

-- each byte is above the line breaks: a Normal chunk then puts each character out as it is
unfoldable pub all_unbroken : List ℕ → Bool
all_unbroken [] = true
all_unbroken (b ∷ t) = ltb 0x0D b && all_unbroken t

-- whether a list is one Normal chunk of at most 4,096 ASCII bytes
unfoldable pub is_plain : List ℕ → List ℕ → Bool
is_plain b table =
    eqb (length table) 4 && (eqb (get_or table 0 0) 0 && (eqb (get_or table 1 0) (length b) && (leb (length b) 4096 && all_ascii b)))

-- an ASCII letter in upper case, where that is asked; any other byte as it is
unfoldable pub plain_byte : Bool → ℕ → ℕ
plain_byte upper b = pick upper (pick (leb (code "a") b && leb b (code "z")) (b - 32) b) b

-- what a byte puts out
unfoldable pub plain_out : Bool → Bool → ℕ → List ℕ
plain_out upper white b = pick (is_break b) (pick white [] (code " " ∷ [])) (plain_byte upper b ∷ [])

-- what the bytes put out
unfoldable pub plain_text : Bool → Bool → List ℕ → List ℕ
plain_text upper white [] = []
plain_text upper white (b ∷ t) = plain_out upper white b ++ plain_text upper (is_whitespace b) t
