-- Usual fields: a year of one to four digits, or of two to four with BC behind it; a month of one or two digits, or its name; a day of one or two digits.
use Prim.Native.Char.{code}
use Rattle.std.specs.Prelude.{ℕ, ◌+◌, ◌-◌, ◌*◌, Bool, true, ◌&&◌, ◌||◌, List, [], ◌∷◌, eqb, ltb, leb, ℤ, pos, length, get_or, take, Some, None, Option}
use Rattle.chars.specs.Pick.{pick}
use Rattle.chars.specs.Classes.{is_ascii_digit}
use Rattle.dates.specs.declared.Day.{Day}
use Rattle.dates.specs.declared.Month.{Month}
use Rattle.dates.specs.Value.{month, day}
use Rattle.fields.specs.Names.{month_for}
use Rattle.fields.specs.Year.{before_christ}
use Rattle.codes.specs.Points.{two_at}

-- digits as a number, behind those that were read; 10000 for other bytes
unfoldable pub number_from : ℕ → List ℕ → ℕ
number_from n [] = n
number_from n (b ∷ t) = pick (is_ascii_digit b) (number_from (n * 10 + (b - code "0")) t) 10000

-- one to four digits as a number; 10000 for other texts
unfoldable pub number_of : List ℕ → ℕ
number_of s = pick (ltb 0 (length s) && ltb (length s) 5) (number_from 0 s) 10000

-- whether a text ends with a space and BC
unfoldable pub ends_with_era : List ℕ → Bool
ends_with_era s =
    eqb (get_or s (length s - 3) 0) (code " ") && (eqb (get_or s (length s - 2) 0) (code "B") && eqb (get_or s (length s - 1) 0) (code "C"))

-- a year before Christ; there is no year 0
unfoldable pub era_year : ℕ → Option ℤ
era_year n = pick (ltb 0 n && ltb n 10000) (Some (before_christ n)) None

-- the year of a year field
unfoldable pub year_part : List ℕ → Option ℤ
year_part s =
    pick (ltb (length s) 5) (pick (ltb (number_of s) 10000) (Some (pos (number_of s))) None)
    (pick (ltb (length s) 8 && ends_with_era s) (era_year (number_of (take (length s - 3) s))) None)

-- one or two digits as a number; 100 for other texts
unfoldable pub small_of : List ℕ → ℕ
small_of s = pick (eqb (length s) 2) (two_at s 0) (pick (eqb (length s) 1 && is_ascii_digit (get_or s 0 0)) (get_or s 0 0 - code "0") 100)

-- a letter of the alphabet
unfoldable pub is_letter : ℕ → Bool
is_letter b = (leb (code "A") b && leb b (code "Z")) || (leb (code "a") b && leb b (code "z"))

-- nothing but letters
unfoldable pub are_letters : List ℕ → Bool
are_letters [] = true
are_letters (b ∷ t) = is_letter b && are_letters t

-- a month that was found
unfoldable pub some_month : Option Month → Option (Option Month)
some_month None = None
some_month (Some m) = Some (Some m)

-- the month of a name
unfoldable pub named_month : List ℕ → Option (Option Month)
named_month s = pick (ltb (length s) 10 && are_letters s) (some_month (month_for s)) None

-- the month of a month field: a number of up to two digits, which no upper bound is put on, or a name
unfoldable pub month_part : List ℕ → Option (Option Month)
month_part s = pick (ltb (small_of s) 100) (pick (eqb (small_of s) 0) None (Some (month (small_of s - 1)))) (named_month s)

-- the day of a day field
unfoldable pub day_part : List ℕ → Option (Option Day)
day_part s = pick (ltb 0 (small_of s) && ltb (small_of s) 32) (Some (day (small_of s - 1))) None
