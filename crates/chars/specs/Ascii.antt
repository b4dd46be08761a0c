-- ASCII: quoted texts in definitions ("BC" says more to a reader than 66 and 67), and digits.
use Rattle.std.specs.Prelude.{ℕ, ◌-◌, List, [], ◌∷◌, ltb}
use Prim.Native.Char.{code}
use Prim.Native.String.{String, [] as ε, ◌∷◌ as ◌◁◌}
use Rattle.chars.specs.Pick.{pick}

-- the codes of a quoted text: its bytes, as all that is quoted is ASCII
abbrev pub ascii : String → List ℕ
ascii ε = []
ascii (c ◁ s) = code c ∷ ascii s

-- what a byte says as a digit, and 10 for any other byte
unfoldable pub digit_of : ℕ → ℕ
digit_of b = pick (ltb b (code "0")) 10 (pick (ltb b (code ":")) (b - code "0") 10)
