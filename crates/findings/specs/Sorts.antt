-- How many lines of a text have a sort, as a script counts them: the text is cut at line feeds, a line at tabs, and its fifth field is its sort.
use Rattle.std.specs.Prelude.{ℕ, ◌+◌, Bool, true, false, ◌&&◌, List, [], ◌∷◌, eqb, get_or}
use Rattle.chars.specs.Pick.{pick}

-- a byte before the parts of a text: one at which it is cut stands between two parts, any other at the front of the first
unfoldable pub before_parts : Bool → ℕ → List (List ℕ) → List (List ℕ)
before_parts true x parts = [] ∷ parts
before_parts false x [] = []
before_parts false x (part ∷ parts) = (x ∷ part) ∷ parts

-- the parts of a text that is cut at a byte: one more than it has of them
unfoldable pub cut_at : ℕ → List ℕ → List (List ℕ)
cut_at b [] = [] ∷ []
cut_at b (x ∷ text) = before_parts (eqb x b) x (cut_at b text)

-- the sort of a line: its fifth field; none where there are fewer
unfoldable pub line_sort : List ℕ → List ℕ
line_sort line = get_or (cut_at 9 line) 4 []

-- two texts are the same
unfoldable pub is_same : List ℕ → List ℕ → Bool
is_same [] [] = true
is_same [] (b ∷ t) = false
is_same (a ∷ s) [] = false
is_same (a ∷ s) (b ∷ t) = eqb a b && is_same s t

-- how many of these lines have a sort
unfoldable pub count_sort : List ℕ → List (List ℕ) → ℕ
count_sort kind [] = 0
count_sort kind (line ∷ lines) = pick (is_same kind (line_sort line)) 1 0 + count_sort kind lines

-- how many lines of a text have it
unfoldable pub lines_of_sort : List ℕ → List ℕ → ℕ
lines_of_sort kind text = count_sort kind (cut_at 10 text)
