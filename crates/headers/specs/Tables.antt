-- The cells of a row by a table of their places in a block.
use Rattle.std.specs.Prelude.{ℕ, zero, suc, ◌+◌, ◌-◌, ◌*◌, List, [], ◌∷◌, leb, ltb, length, get_or, take, drop}
use Rattle.chars.specs.Pick.{pick}

-- the bytes from one place to another; none where there are no such places
unfoldable pub between : List ℕ → ℕ → ℕ → List ℕ
between s start stop = pick (leb stop (length s)) (pick (leb start stop) (take (stop - start) (drop start s)) []) []

-- the cell of this number, by its two numbers in the table, which has 512 of them
unfoldable pub cell_at : List ℕ → List ℕ → ℕ → List ℕ
cell_at s table i = pick (ltb i 256) (between s (get_or table (2 * i) 0) (get_or table (2 * i + 1) 0)) []

-- so many cells from this number on
unfoldable pub cells_from : List ℕ → List ℕ → ℕ → ℕ → List (List ℕ)
cells_from s table i zero = []
cells_from s table i (suc n) = cell_at s table i ∷ cells_from s table (suc i) n
