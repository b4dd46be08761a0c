-- How many line feeds bytes have, and how far they are well-formed UTF-8.
use Rattle.std.specs.Prelude.{ℕ, zero, suc, ◌+◌, ◌-◌, Bool, List, [], ◌∷◌, ◌++◌, eqb}
use Rattle.chars.specs.Pick.{pick}
use Rattle.chars.specs.Table.{WellFormed}
use Rattle.chars.specs.Utf8.{first, len_d}

-- one where a test holds, else none
unfoldable pub one_if : Bool → ℕ
one_if t = pick t 1 0

-- how many line feeds there are
unfoldable pub feeds : List ℕ → ℕ
feeds [] = 0
feeds (b ∷ t) = one_if (eqb b 10) + feeds t

-- how many bytes stand before the first ill-formed sequence, or before the end; of the first k the character is known
unfoldable pub utf8_from : ℕ → List ℕ → ℕ
utf8_from k [] = 0
utf8_from zero (b ∷ t) = pick (eqb (len_d (first (b ∷ t))) 0) 0 (suc (utf8_from (len_d (first (b ∷ t)) - 1) t))
utf8_from (suc k) (b ∷ t) = suc (utf8_from k t)

-- the place of the first ill-formed sequence, or the length
unfoldable pub utf8_end : List ℕ → ℕ
utf8_end s = utf8_from 0 s

-- well-formed sequences, one behind the other
pub data Encoded : List ℕ → Type 0 where
  no_bytes : Encoded []
  a_char : {s t : List ℕ} {c : ℕ} → WellFormed s c → Encoded t → Encoded (s ++ t)
