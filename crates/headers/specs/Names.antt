-- The names of columns: in any mixture of cases, with spaces and tabs around them.
use Rattle.std.specs.Prelude.{ℕ, suc, Bool, false, ◌&&◌, ◌||◌, List, [], ◌∷◌, eqb, length, drop}
use Rattle.chars.specs.Pick.{pick}
use Rattle.fields.specs.Names.{lower}

-- a space or a tab
unfoldable pub is_space : ℕ → Bool
is_space b = eqb b 32 || eqb b 9

-- how many spaces and tabs stand at the front
unfoldable pub spaces : List ℕ → ℕ
spaces [] = 0
spaces (b ∷ s) = pick (is_space b) (suc (spaces s)) 0

-- the name, which is in lower case, stands at the front in any mixture of cases, and only spaces and tabs behind it
unfoldable pub starts_so : List ℕ → List ℕ → Bool
starts_so [] s = eqb (spaces s) (length s)
starts_so (x ∷ name) [] = false
starts_so (x ∷ name) (b ∷ s) = eqb x (lower b) && starts_so name s

-- a cell has this name
unfoldable pub is_name : List ℕ → List ℕ → Bool
is_name name cell = starts_so name (drop (spaces cell) cell)
