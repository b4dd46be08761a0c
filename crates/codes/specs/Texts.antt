-- Usual texts, in the form that Dates are written in: a point, a range of two, or one that is open at a side, and a mark behind it.
use Prim.Native.Char.{code}
use Rattle.std.specs.Prelude.{ℕ, ◌+◌, Bool, true, ◌&&◌, List, [], ◌∷◌, eqb, ltb, length, get_or, take, drop, Result, Ok, Option, Some}
use Rattle.chars.specs.Pick.{pick}
use Rattle.dates.specs.declared.DateValue.{DateValue}
use Rattle.dates.specs.declared.DateValue.TheVariants.{At, After, Before, Between}
use Rattle.dates.specs.Value.{date}
use Rattle.dates.specs.declared.Date.{Date}
use Rattle.refusals.specs.declared.Refusal.{Refusal}
use Rattle.datefield.specs.Text.{last_byte, is_uncertain, is_approximate, unmarked, is_dots}
use Rattle.codes.specs.Points.{day_point, time_of, on_some, point_of}

-- whether a slash stands at a place
unfoldable pub is_slash : List ℕ → ℕ → Bool
is_slash s at = eqb (get_or s at 0) (code "/")

-- where a slash stands, if it stands behind a point or behind two dots
unfoldable pub slash_of : List ℕ → ℕ
slash_of s = pick (is_slash s 4) 4 (pick (is_slash s 7) 7 (pick (is_slash s 2) 2 10))

-- the texts on both sides of a slash: two points, or one and two dots
unfoldable pub halves : List ℕ → List ℕ → Option DateValue
halves a b =
    pick (is_dots a) (on_some (point_of b) λ d. Some (Before d))
    (pick (is_dots b) (on_some (point_of a) λ d. Some (After d))
    (on_some (point_of a) λ x. on_some (point_of b) λ y. Some (Between x y)))

-- a point with a time
unfoldable pub timed : List ℕ → Option DateValue
timed s = on_some (time_of s) λ t. on_some (day_point s t) λ d. Some (At d)

-- a text without its mark
unfoldable pub value_of : List ℕ → Option DateValue
value_of s =
    pick (is_slash s (slash_of s)) (halves (take (slash_of s) s) (drop (slash_of s + 1) s))
    (pick (ltb (length s) 19) (on_some (point_of s) λ d. Some (At d)) (timed s))

-- what a usual text says
unfoldable pub written : List ℕ → Option (Result Date Refusal)
written s = on_some (value_of (unmarked s)) λ v. Some (Ok (date v (is_uncertain (last_byte s)) (is_approximate (last_byte s))))

-- whether each byte is a space
unfoldable pub are_spaces : List ℕ → Bool
are_spaces [] = true
are_spaces (x ∷ s) = eqb x (code " ") && are_spaces s

-- a text without the spaces at its end
unfoldable pub unspaced : List ℕ → List ℕ
unspaced [] = []
unspaced (x ∷ s) = pick (are_spaces (x ∷ s)) [] (x ∷ unspaced s)
