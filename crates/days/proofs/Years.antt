-- The days before a year: the sum of the years' lengths is the formula, 400 years have 146,097 days, and the years before the year 0 have the
-- calendar of those 10,000 later. Assumes nothing.
use mathlib.Core.Path.{◌≡◌, refl, sym, ap, ◌∙◌}
use mathlib.Core.Bool.{Bool, true, false, not, ◌&&◌, ◌||◌}
use Prim.Native.Nat.{ℕ, zero, suc, ◌+◌, ◌-◌, ◌*◌, ◌/◌, ◌%◌, ◌≤◌, ◌<◌}
use native.Mathlib.Omega.{arith}
use lib.Dec.{eqb}
use lib.IntN.{ℤ, pos, negsuc}
use borrow.Author.Tests.{eqb-true, eqb-false, eq-eqb, ne_eqb}
use Rattle.dates.specs.Calendar.{multiple, leap_year, february, month_lengths}
use Rattle.days.specs.Days.{total, year_length, days_from, days_back}
use Rattle.days.specs.Ways.{year_days}

-- what a leap year adds
abbrev pub one-if : Bool → ℕ
one-if true = 1
one-if false = 0

at_most : (t : Bool) → one-if t ≤ 1
at_most true = omega arith
at_most false = omega arith

-- each division by itself, and then their sum over plain numbers: omega takes one divisor at a time, not three
up4 : (n : ℕ) (t : Bool) → eqb (n % 4) 0 ≡ t → (suc n + 3) / 4 ≡ (n + 3) / 4 + one-if t
up4 n true p = omega (arith, eqb-true (n % 4) 0 p)
up4 n false p = omega (arith, eqb-false (n % 4) 0 p)

up100 : (n : ℕ) (t : Bool) → eqb (n % 100) 0 ≡ t → (suc n + 99) / 100 ≡ (n + 99) / 100 + one-if t
up100 n true p = omega (arith, eqb-true (n % 100) 0 p)
up100 n false p = omega (arith, eqb-false (n % 100) 0 p)

up400 : (n : ℕ) (t : Bool) → eqb (n % 400) 0 ≡ t → (suc n + 399) / 400 ≡ (n + 399) / 400 + one-if t
up400 n true p = omega (arith, eqb-true (n % 400) 0 p)
up400 n false p = omega (arith, eqb-false (n % 400) 0 p)

fewer : (n : ℕ) → (n + 99) / 100 ≤ (n + 3) / 4
fewer n = omega arith

by100 : (n : ℕ) → n % 100 ≡ 0 → n % 4 ≡ 0
by100 n h = omega arith

by400 : (n : ℕ) → n % 400 ≡ 0 → n % 100 ≡ 0
by400 n h = omega arith

sums : (n a b c a' b' c' x y z d : ℕ) → b ≤ a → y ≤ 1 → a' ≡ a + x → b' ≡ b + y → c' ≡ c + z → x + z ≡ y + d → 365 * suc n + a' - b' + c' ≡ 365 * n + a - b + c + (365 + d)
sums n a b c a' b' c' x y z d h i e f g k = omega arith

-- what the divisions gain is what the year gains
gain : (n : ℕ) (p : Bool) → eqb (n % 4) 0 ≡ p → (q : Bool) → eqb (n % 100) 0 ≡ q → (r : Bool) → eqb (n % 400) 0 ≡ r → one-if p + one-if r ≡ one-if q + one-if (p && (not q || r))
gain n true p true q true r = refl
gain n true p true q false r = refl
gain n true p false q true r = absurd (eqb-false (n % 100) 0 q (by400 n (eqb-true (n % 400) 0 r)))
gain n true p false q false r = refl
gain n false p true q true r = absurd (eqb-false (n % 4) 0 p (by100 n (eqb-true (n % 100) 0 q)))
gain n false p true q false r = absurd (eqb-false (n % 4) 0 p (by100 n (eqb-true (n % 100) 0 q)))
gain n false p false q true r = absurd (eqb-false (n % 100) 0 q (by400 n (eqb-true (n % 400) 0 r)))
gain n false p false q false r = refl

-- a year has 365 days, and one more if it is a leap year
length-of : (leap : Bool) → total (month_lengths leap) ≡ 365 + one-if leap
unfolding total month_lengths february
length-of true = refl
length-of false = refl

pub year_is : (y : ℤ) → year_length y ≡ 365 + one-if (leap_year y)
unfolding year_length
year_is y = length-of (leap_year y)

pub year-most : (y : ℤ) → year_length y ≤ 366
year-most y = omega (arith, year_is y, at_most (leap_year y))

pub year-least : (y : ℤ) → 365 ≤ year_length y
year-least y = omega (arith, year_is y)

year-step : (n : ℕ) → year_days (suc n) ≡ year_days n + year_length (pos n)
unfolding leap_year multiple
year-step n =
    sums n ((n + 3) / 4) ((n + 99) / 100) ((n + 399) / 400) ((suc n + 3) / 4) ((suc n + 99) / 100) ((suc n + 399) / 400)
    (one-if (eqb (n % 4) 0)) (one-if (eqb (n % 100) 0)) (one-if (eqb (n % 400) 0)) (one-if (eqb (n % 4) 0 && (not (eqb (n % 100) 0) || eqb (n % 400) 0)))
    (fewer n) (at_most (eqb (n % 100) 0)) (up4 n _ refl) (up100 n _ refl) (up400 n _ refl)
    (gain n _ refl _ refl _ refl)
    ∙ ap (λ (k : ℕ). year_days n + k) (sym (year_is (pos n)))

-- the sum of the lengths is the formula
pub from_is : (n : ℕ) → days_from n ≡ year_days n
unfolding days_from
from_is zero = refl
from_is (suc n) = ap (λ (k : ℕ). k + year_length (pos n)) (from_is n) ∙ sym (year-step n)

pub from_next : (n : ℕ) → days_from (suc n) ≡ days_from n + year_length (pos n)
unfolding days_from
from_next n = refl

pub from-most : (n : ℕ) → days_from n ≤ 366 * n
unfolding days_from
from-most zero = omega arith
from-most (suc n) = omega (arith, from-most n, year-most (pos n))

-- 400 years further
on : (n a b c a' b' c' : ℕ) → b ≤ a → a' ≡ a + 100 → b' ≡ b + 4 → c' ≡ c + 1 → 365 * (n + 400) + a' - b' + c' ≡ 365 * n + a - b + c + 146097
on n a b c a' b' c' h e f g = omega arith

on4 : (n : ℕ) → (n + 400 + 3) / 4 ≡ (n + 3) / 4 + 100
on4 n = omega arith

on100 : (n : ℕ) → (n + 400 + 99) / 100 ≡ (n + 99) / 100 + 4
on100 n = omega arith

on400 : (n : ℕ) → (n + 400 + 399) / 400 ≡ (n + 399) / 400 + 1
on400 n = omega arith

pub cycle : (n : ℕ) → days_from (n + 400) ≡ days_from n + 146097
cycle n =
    from_is (n + 400)
    ∙ on n ((n + 3) / 4) ((n + 99) / 100) ((n + 399) / 400) ((n + 400 + 3) / 4) ((n + 400 + 99) / 100) ((n + 400 + 399) / 400) (fewer n) (on4 n) (on100 n) (on400 n)
    ∙ ap (λ (k : ℕ). k + 146097) (sym (from_is n))

pub cycles : (n c : ℕ) → days_from (n + c * 400) ≡ days_from n + c * 146097
cycles n zero =
    let e : n + 0 * 400 ≡ n = omega arith in
    ap days_from e ∙ omega arith
cycles n (suc c) =
    let e : n + suc c * 400 ≡ n + c * 400 + 400 = omega arith in
    ap days_from e ∙ cycle (n + c * 400) ∙ omega (arith, cycles n c)

-- two years with the same remainders are both leap years or neither
same_test : (k a b : ℕ) → (a % k ≡ 0 → b % k ≡ 0) → (b % k ≡ 0 → a % k ≡ 0) → eqb (a % k) 0 ≡ eqb (b % k) 0
same_test k a b f g = go (eqb (b % k) 0) refl
  where
    go : (t : Bool) → eqb (b % k) 0 ≡ t → eqb (a % k) 0 ≡ t
    go true e = eq-eqb (a % k) 0 (g (eqb-true (b % k) 0 e))
    go false e = ne_eqb (a % k) 0 (λ (h : a % k ≡ 0). eqb-false (b % k) 0 e (f h))

leap-same : (y z : ℤ) → multiple 4 y ≡ multiple 4 z → multiple 100 y ≡ multiple 100 z → multiple 400 y ≡ multiple 400 z → leap_year y ≡ leap_year z
unfolding leap_year
leap-same y z e f g = rw (e, f, g)

-- a year and the one in the first cycle
pub leap-cycle : (n : ℕ) → leap_year (pos n) ≡ leap_year (pos (n % 400))
unfolding multiple
leap-cycle n =
    leap-same (pos n) (pos (n % 400))
    (same_test 4 n (n % 400) (λ (h : n % 4 ≡ 0). omega arith) (λ (h : n % 400 % 4 ≡ 0). omega arith))
    (same_test 100 n (n % 400) (λ (h : n % 100 ≡ 0). omega arith) (λ (h : n % 400 % 100 ≡ 0). omega arith))
    (same_test 400 n (n % 400) (λ (h : n % 400 ≡ 0). omega arith) (λ (h : n % 400 % 400 ≡ 0). omega arith))

-- a year from 0 on and the one 10,000 later
pub leap-on : (n : ℕ) → leap_year (pos n) ≡ leap_year (pos (n + 10000))
unfolding multiple
leap-on n =
    leap-same (pos n) (pos (n + 10000))
    (same_test 4 n (n + 10000) (λ (h : n % 4 ≡ 0). omega arith) (λ (h : (n + 10000) % 4 ≡ 0). omega arith))
    (same_test 100 n (n + 10000) (λ (h : n % 100 ≡ 0). omega arith) (λ (h : (n + 10000) % 100 ≡ 0). omega arith))
    (same_test 400 n (n + 10000) (λ (h : n % 400 ≡ 0). omega arith) (λ (h : (n + 10000) % 400 ≡ 0). omega arith))

-- a year before 0 likewise
pub leap-back : (n : ℕ) → n < 10000 → leap_year (negsuc n) ≡ leap_year (pos (10000 - suc n))
unfolding multiple
leap-back n b =
    leap-same (negsuc n) (pos (10000 - suc n))
    (same_test 4 (suc n) (10000 - suc n) (λ (h : suc n % 4 ≡ 0). omega arith) (λ (h : (10000 - suc n) % 4 ≡ 0). omega arith))
    (same_test 100 (suc n) (10000 - suc n) (λ (h : suc n % 100 ≡ 0). omega arith) (λ (h : (10000 - suc n) % 100 ≡ 0). omega arith))
    (same_test 400 (suc n) (10000 - suc n) (λ (h : suc n % 400 ≡ 0). omega arith) (λ (h : (10000 - suc n) % 400 ≡ 0). omega arith))

pub length-same : (y z : ℤ) → leap_year y ≡ leap_year z → year_length y ≡ year_length z
unfolding year_length
length-same y z e = rw e

-- 10,000 years are 25 cycles
pub from_on : (n : ℕ) → days_from (n + 10000) ≡ days_from n + 3652425
from_on n = cycles n 25

pub from_back : (n : ℕ) → n ≤ 10000 → days_from (10000 - n) + days_back n ≡ 3652425
unfolding days_back days_from
from_back zero b = ap (λ (k : ℕ). k + 0) (from_on 0)
from_back (suc n) b =
    let e : suc (10000 - suc n) ≡ 10000 - n = omega arith in
    let f : days_from (10000 - n) ≡ days_from (10000 - suc n) + year_length (pos (10000 - suc n)) = ap days_from (sym e) ∙ from_next (10000 - suc n) in
    omega (arith, from_back n (omega arith), f, length-same (negsuc n) (pos (10000 - suc n)) (leap-back n (omega arith)))
