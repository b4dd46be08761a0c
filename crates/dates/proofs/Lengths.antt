-- How long a month can be. Assumes nothing.
use mathlib.Core.Bool.{Bool, true, false}
use mathlib.Core.List.{List, [], ◌∷◌}
use Prim.Native.Nat.{ℕ, zero, suc, ◌≤◌}
use native.Mathlib.Omega.{arith}
use lib.Dec.{lit≤}
use lib.IntN.{ℤ}
use lib.ListN.{get_or}
use Rattle.dates.specs.Calendar.{leap_year, february, month_lengths, month_length}

abbrev AllLe : ℕ → List ℕ → Type 0
AllLe n [] = Unit {0}
AllLe n (x ∷ l) = (x ≤ n) × AllLe n l

get_d-most : (n : ℕ) (l : List ℕ) (i : ℕ) → AllLe n l → get_or l i 0 ≤ n
get_d-most n [] i h = omega arith
get_d-most n (x ∷ l) zero h = h.0
get_d-most n (x ∷ l) (suc i) h = get_d-most n l i h.1

lengths-most : (b : Bool) → AllLe 31 (month_lengths b)
unfolding month_lengths february
lengths-most true = (lit≤ tt, (lit≤ tt, (lit≤ tt, (lit≤ tt, (lit≤ tt, (lit≤ tt, (lit≤ tt, (lit≤ tt, (lit≤ tt, (lit≤ tt, (lit≤ tt, (lit≤ tt, tt))))))))))))
lengths-most false = (lit≤ tt, (lit≤ tt, (lit≤ tt, (lit≤ tt, (lit≤ tt, (lit≤ tt, (lit≤ tt, (lit≤ tt, (lit≤ tt, (lit≤ tt, (lit≤ tt, (lit≤ tt, tt))))))))))))

-- no month is longer than 31 days
pub length_most : (m : ℕ) (y : ℤ) → month_length m y ≤ 31
unfolding month_length
length_most m y = get_d-most 31 (month_lengths (leap_year y)) m (lengths-most (leap_year y))
