-- How the bytes of a file are shown in a line: so that each has its own form, and none of them ends a field or the line.
use Prim.Native.Char.{code}
use Rattle.std.specs.Prelude.{ℕ, ◌/◌, ◌%◌, Bool, ◌||◌, List, [], ◌∷◌, ◌++◌, ltb, eqb}
use Rattle.chars.specs.Pick.{pick}
use Rattle.answers.specs.Answer.{glyph}

-- a byte below 32, or 127
unfoldable pub is_hidden : ℕ → Bool
is_hidden b = ltb b 32 || eqb b 127

-- a quote or a backslash
unfoldable pub is_marked : ℕ → Bool
is_marked b = eqb b (code "\"") || eqb b (code "\\")

-- a byte as it is shown: \x and two hexadecimal digits, or behind a backslash, or as it is
unfoldable pub shown_byte : ℕ → List ℕ
shown_byte b =
    pick (is_hidden b) (code "\\" ∷ code "x" ∷ glyph (b / 16) ∷ glyph (b % 16) ∷ [])
    (pick (is_marked b) (code "\\" ∷ b ∷ []) (b ∷ []))

-- bytes, one behind the other
unfoldable pub escaped : List ℕ → List ℕ
escaped [] = []
escaped (b ∷ l) = shown_byte b ++ escaped l

-- the same between double quotes
unfoldable pub quoted : List ℕ → List ℕ
quoted l = (code "\"" ∷ []) ++ (escaped l ++ (code "\"" ∷ []))
