-- Numbers as they are written: decimal, with at least so many digits.
use Rattle.std.specs.Prelude.{ℕ, zero, suc, ◌+◌, ◌/◌, ◌%◌, Bool, true, false, List, [], ◌∷◌, ◌++◌, ltb, eqb}
use Rattle.chars.specs.Pick.{pick}

-- the last w decimal digits of a number, the highest first
abbrev pub digits : ℕ → ℕ → List ℕ
digits zero n = []
digits (suc w) n = digits w (n / 10) ++ ((48 + n % 10) ∷ [])

-- how often a number is divided by ten until nothing is left, at most so often; whether nothing is left is told first
unfoldable pub count : ℕ → Bool → ℕ → ℕ
count zero nothing n = 0
count (suc more) true n = 0
count (suc more) false n = suc (count more (eqb (n / 10) 0) (n / 10))

-- how many digits a number has; zero has none
unfoldable pub digit_count : ℕ → ℕ
digit_count n = count n (eqb n 0) n

-- how many digits it is written with, if they are to be at least so many
unfoldable pub width : ℕ → ℕ → ℕ
width least n = pick (ltb (digit_count n) least) least (digit_count n)

-- the number with at least so many digits
unfoldable pub decimal : ℕ → ℕ → List ℕ
decimal least n = digits (width least n) n
