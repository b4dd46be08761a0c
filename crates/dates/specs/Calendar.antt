-- ISO 8601's calendar: which years are leap years, and how long a month is. The years are those before year 1 too, counted down through 0.
use Rattle.std.specs.Prelude.{ℕ, ◌%◌, Bool, true, false, not, ◌&&◌, ◌||◌, List, [], ◌∷◌, eqb, get_or, ℤ, nat_abs}

-- whether a number of either sign is a multiple of n
unfoldable pub multiple : ℕ → ℤ → Bool
multiple n z = eqb (nat_abs z % n) 0

-- a year divisible by 4 is a leap year, but of those divisible by 100 only the ones divisible by 400
unfoldable pub leap_year : ℤ → Bool
leap_year y = multiple 4 y && (not (multiple 100 y) || multiple 400 y)

-- the length of February
unfoldable pub february : Bool → ℕ
february true = 29
february false = 28

-- the lengths of the twelve months, January first, of a leap year or another
unfoldable pub month_lengths : Bool → List ℕ
month_lengths leap = 31 ∷ february leap ∷ 31 ∷ 30 ∷ 31 ∷ 30 ∷ 31 ∷ 31 ∷ 30 ∷ 31 ∷ 30 ∷ 31 ∷ []

-- the length of a month that is counted from zero; what is no month has no days
unfoldable pub month_length : ℕ → ℤ → ℕ
month_length m y = get_or (month_lengths (leap_year y)) m 0
