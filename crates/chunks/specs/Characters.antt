-- A text as its characters in turn.
use Rattle.std.specs.Prelude.{ℕ, zero, suc, List, [], ◌∷◌, length, drop}
use Rattle.chars.specs.Utf8.{first}
use Rattle.chars.specs.declared.Decoded.{Decoded}
use Rattle.chars.specs.declared.Decoded.TheVariants.{Char, Bad, End}

-- what a text begins with, and then what follows behind a character's bytes
unfoldable pub and_then : Decoded → (ℕ → List Decoded) → List Decoded
and_then (Char code len) rest = Char code len ∷ rest len
and_then Bad rest = Bad ∷ []
and_then End rest = []

-- the characters of a text, at most as many as the number says
unfoldable pub up_to : ℕ → List ℕ → List Decoded
up_to zero t = []
up_to (suc n) t = and_then (first t) (λ k. up_to n (drop k t))

-- the characters of a text, and `Bad` behind them where an ill-formed sequence stands: there are no more characters than bytes
unfoldable pub characters : List ℕ → List Decoded
characters t = up_to (length t) t

-- the codes of characters, as far as they are characters
unfoldable pub codes_of : List Decoded → List ℕ
codes_of [] = []
codes_of (Char code len ∷ rest) = code ∷ codes_of rest
codes_of (Bad ∷ rest) = []
codes_of (End ∷ rest) = []

-- the codes of a text's characters
unfoldable pub codes : List ℕ → List ℕ
codes t = codes_of (characters t)
