-- The reader of level one, as definitions. That it accepts exactly what the grammar of level one derives is proved in `proofs/Level.antt`.
use Rattle.std.specs.Prelude.{ℕ, zero, suc, ◌+◌, ◌-◌, ◌*◌, Bool, true, false, not, ◌&&◌, List, [], ◌∷◌, leb, ℤ, take, drop, Option, Some, None}
use Prim.Native.Char.{code}
use Rattle.chars.specs.Pick.{pick}
use Rattle.chars.specs.Classes.{is_ascii_digit}
use Rattle.dates.specs.declared.Date.{Date}
use Rattle.dates.specs.declared.Datetime.{Datetime}
use Rattle.dates.specs.Value.{datetime, season_of}
use Rattle.strict.specs.Level.{season_at}
use Rattle.strict.specs.Matcher.{is, on, on_four, four, field, behind_year, point, text_of}
use Rattle.chars.specs.Signs.{signed}

-- behind a year of four digits: a season, or what a strict point has
unfoldable pub level_year : List ℕ → ℕ → ℤ → Option (Datetime × ℕ)
level_year s at y = on (field (code "-") 21 24 (drop at s)) (behind_year s at y) λ n. Some (season_of y (season_at n), at + 3)

-- a point whose four digits start at a place
unfoldable pub level_at : List ℕ → ℕ → Bool → Option (Datetime × ℕ)
level_at s at negative = on_four (four (drop at s)) None λ n. level_year s (at + 4) (signed negative n)

-- how many digits stand at the front, at most so many
unfoldable pub run : ℕ → List ℕ → ℕ
run zero s = 0
run (suc f) [] = 0
run (suc f) (x ∷ s) = pick (is_ascii_digit x) (suc (run f s)) 0

-- what digits write, behind a number
unfoldable pub value_from : ℕ → List ℕ → ℕ
value_from n [] = n
value_from n (x ∷ s) = value_from (n * 10 + (x - code "0")) s

-- a long year whose digits start at a place: five to nine, the first not zero
unfoldable pub long_at : List ℕ → ℕ → Bool → Option (Datetime × ℕ)
long_at s at negative =
    pick (leb 5 (run 10 (drop at s)) && (leb (run 10 (drop at s)) 9 && not (is (code "0") s at)))
    (Some (datetime (signed negative (value_from 0 (take (run 10 (drop at s)) (drop at s)))) None None None, at + run 10 (drop at s)))
    None

-- a point of level one at the front
unfoldable pub level_point : List ℕ → Option (Datetime × ℕ)
level_point s =
    pick (is (code "Y") s 0)
    (pick (is (code "-") s 1) (long_at s 2 true) (long_at s 1 false))
    (pick (is (code "-") s 0) (level_at s 1 true) (level_at s 0 false))

-- the points of level one, or the strict ones
unfoldable pub point_of : Bool → List ℕ → Option (Datetime × ℕ)
point_of true = level_point
point_of false = point

-- the matcher; `level-exact` in proofs/Level.antt says that it accepts what the grammar derives
unfoldable pub level : List ℕ → Option Date
level s = text_of level_point s
