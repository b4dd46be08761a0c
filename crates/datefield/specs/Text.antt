-- The text of a date field, taken apart: the white space at its end, its mark, its slash, its open halves.
use Prim.Native.Char.{code}
use Rattle.std.specs.Prelude.{ℕ, suc, ◌-◌, Bool, ◌&&◌, ◌||◌, List, [], ◌∷◌, leb, eqb, length, get_or, take}
use Rattle.chars.specs.Pick.{pick}
use Rattle.scanner.specs.declared.Class.TheVariants.{Whitespace}
use Rattle.scanner.specs.Scan.{eat_while}
use Rattle.numbers.specs.Trim.{trim_end}

-- the text without the white space at its end
unfoldable pub trimmed : List ℕ → List ℕ
trimmed s = take (trim_end s) s

-- the last byte of a text; 0 of the empty one
unfoldable pub last_byte : List ℕ → ℕ
last_byte s = get_or s (length s - 1) 0

-- whether a mark says that the date is uncertain: `?`, or `%` for both
unfoldable pub is_uncertain : ℕ → Bool
is_uncertain c = eqb c (code "?") || eqb c (code "%")

-- whether it says that the date is approximate: `~`, or `%` for both
unfoldable pub is_approximate : ℕ → Bool
is_approximate c = eqb c (code "~") || eqb c (code "%")

-- the text without one final mark; nothing is trimmed again behind it
unfoldable pub unmarked : List ℕ → List ℕ
unmarked s = pick (is_uncertain (last_byte s) || is_approximate (last_byte s)) (take (length s - 1) s) s

-- how many bytes stand before the first b: all of them if there is none
unfoldable pub first_of : ℕ → List ℕ → ℕ
first_of b [] = 0
first_of b (x ∷ t) = pick (eqb x b) 0 (suc (first_of b t))

-- white space alone, or nothing
unfoldable pub is_blank : List ℕ → Bool
is_blank s = leb (length s) (eat_while Whitespace s 0)

-- exactly `..`, with no white space beside it
unfoldable pub is_dots : List ℕ → Bool
is_dots s = eqb (length s) 2 && (eqb (get_or s 0 0) (code ".") && eqb (get_or s 1 0) (code "."))

-- a half that is open: the range has no start, or no end
unfoldable pub is_open : List ℕ → Bool
is_open s = is_blank s || is_dots s
