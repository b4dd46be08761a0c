-- Day numbers: days counted on from 0000-01-01, which is day 0, and down before it. They are sums of month lengths and nothing else.
use Rattle.std.specs.Prelude.{ℕ, zero, suc, ◌+◌, List, [], ◌∷◌, take, ℤ, pos, negsuc, neg_ℤ, ◌+ℤ◌}
use Rattle.dates.specs.Calendar.{leap_year, month_lengths}

-- the sum of numbers
unfoldable pub total : List ℕ → ℕ
total [] = 0
total (n ∷ l) = n + total l

-- the days of a year: those of its twelve months
unfoldable pub year_length : ℤ → ℕ
year_length y = total (month_lengths (leap_year y))

-- the days of a year before one of its months, which are counted from zero: those of the months before it
unfoldable pub days_before : ℕ → ℤ → ℕ
days_before m y = total (take m (month_lengths (leap_year y)))

-- the days of n years, from the year 0 on
unfoldable pub days_from : ℕ → ℕ
days_from zero = 0
days_from (suc n) = days_from n + year_length (pos n)

-- the days of n years, from the year -1 down; `negsuc n` is -(n + 1)
unfoldable pub days_back : ℕ → ℕ
days_back zero = 0
days_back (suc n) = days_back n + year_length (negsuc n)

-- the first day of a year
unfoldable pub new_year : ℤ → ℤ
new_year (pos n) = pos (days_from n)
new_year (negsuc n) = neg_ℤ (pos (days_back (suc n)))

-- the first day of a month
unfoldable pub month_start : ℕ → ℤ → ℤ
month_start m y = new_year y +ℤ pos (days_before m y)
