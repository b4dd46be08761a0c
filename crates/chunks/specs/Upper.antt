-- A text in upper case, character by character.
use Rattle.std.specs.Prelude.{ℕ, List, [], ◌∷◌, ◌++◌}
use Rattle.chars.specs.Utf8.{encode_all}
use Rattle.chars.specs.Upper.{upper_of, codes_of as upper_codes}
use Rattle.chunks.specs.Characters.{codes}

-- the bytes of a character's upper case
unfoldable pub upper_out : ℕ → List ℕ
upper_out c = encode_all (upper_codes (upper_of c))

-- the bytes of the characters' upper case, one behind the other
unfoldable pub uppers : List ℕ → List ℕ
uppers [] = []
uppers (c ∷ cs) = upper_out c ++ uppers cs

-- a text in upper case
unfoldable pub uppercase : List ℕ → List ℕ
uppercase t = uppers (codes t)
