-- What the text of a cell is, and what is left in the buffer that it is copied to.
use Rattle.std.specs.Prelude.{ℕ, ◌-◌, List, [], ◌∷◌, eqb, leb, length, take, drop, Option, Some, None}
use Rattle.std.proofs.lemmas.List.Edits.{sets}
use Rattle.chars.specs.Pick.{pick}
use Rattle.csv_rows.specs.Reader.{Place}

-- bytes with each doubled quote as one
unfoldable pub undoubled : List ℕ → List ℕ
undoubled [] = []
undoubled (b ∷ []) = b ∷ []
undoubled (b ∷ c ∷ s) = pick (eqb b 34) (pick (eqb c 34) (b ∷ undoubled s) (b ∷ undoubled (c ∷ s))) (b ∷ undoubled (c ∷ s))

-- what is answered where the text of these own bytes is copied: there is room if the own bytes are no more than the room
unfoldable pub copied : List ℕ → ℕ → Option ℕ
copied raw room = pick (leb (length raw) room) (Some (length (undoubled raw))) None

-- the buffer afterwards: the text at its front, or as it was
unfoldable pub copied_into : List ℕ → List ℕ → List ℕ
copied_into raw out = pick (leb (length raw) (length out)) (sets out 0 (undoubled raw)) out

-- the own bytes of a cell of a row
unfoldable pub own_bytes : List ℕ → Place → List ℕ
own_bytes s c = take (c.stop - c.start) (drop c.start s)

-- the text of a cell of a row: its own bytes, with doubled quotes as one. A plain cell has no quote
unfoldable pub text_of : List ℕ → Place → List ℕ
text_of s c = undoubled (own_bytes s c)

-- the texts of cells of a row
unfoldable pub texts_of : List ℕ → List Place → List (List ℕ)
texts_of s [] = []
texts_of s (c ∷ cs) = text_of s c ∷ texts_of s cs
