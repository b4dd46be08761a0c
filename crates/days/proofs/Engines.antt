-- The two ways of counting, by the formula and from the table, give the same for each month of each year. Assumes nothing.
use mathlib.Core.Path.{◌≡◌, refl, sym, ap, ◌∙◌}
use Prim.Native.Nat.{ℕ, zero, suc, ◌+◌, ◌*◌, ◌/◌, ◌%◌, ◌≤◌, ◌<◌}
use native.Mathlib.Omega.{arith}
use lib.IntN.{pos}
use lib.ListN.{get_or}
use Rattle.dates.specs.Calendar.{leap_year, month_length}
use Rattle.days.specs.Days.{year_length, days_before, days_from}
use Rattle.dates.specs.declared.Datetime.{Datetime}
use Rattle.std.specs.Prelude.{Option, Some, None, Result, Ok}
use Rattle.days.specs.declared.Period.{Period}
use Rattle.refusals.specs.declared.Refusal.{Refusal}
use Rattle.days.specs.declared.Stretch.{Stretch}
use Rattle.days.specs.Covered.{calendar_days, covered}
use Rattle.days.specs.Counts.{asked, days_to, length_at, months_to, period_from}
use Rattle.days.specs.Table.{table}
use Rattle.days.specs.Ways.{by_formula, by_table, stretch_days, days_by}
use Rattle.days.proofs.Years.{from_is, cycles, leap-cycle}
use Rattle.days.proofs.Months.{months-rule, before-next, before-first, before_last, before_same}
use Rattle.days.proofs.Counts.{In, asked_in, answered}
use Rattle.days.proofs.Table.{entry-is}

-- months counted on through the years
months-on : (n m : ℕ) → m < 12 → months_to (suc (n * 12 + m)) ≡ months_to (n * 12 + m) + month_length m (pos n)
unfolding months_to length_at
months-on n m h =
    let e : (n * 12 + m) % 12 ≡ m = omega arith in
    let f : (n * 12 + m) / 12 ≡ n = omega arith in
    rw (e, f)

inside : (n m : ℕ) → m ≤ 12 → months_to (n * 12) ≡ days_from n → months_to (n * 12 + m) ≡ days_to n m
unfolding days_to
inside n zero h e =
    let f : n * 12 + 0 ≡ n * 12 = omega arith in
    ap months_to f ∙ omega (arith, e, before-first (pos n))
inside n (suc m) h e =
    let f : n * 12 + suc m ≡ suc (n * 12 + m) = omega arith in
    ap months_to f ∙ omega (arith, months-on n m (omega arith), inside n m (omega arith) e, before-next m (pos n))

full : (n : ℕ) → days_to n 12 ≡ days_from n + year_length (pos n)
unfolding days_to
full n = omega (arith, before_last (pos n))

years-on : (n : ℕ) → months_to (n * 12) ≡ days_from n
unfolding months_to days_from
years-on zero = refl
years-on (suc n) =
    let f : suc n * 12 ≡ n * 12 + 12 = omega arith in
    ap months_to f ∙ inside n 12 (omega arith) (years-on n) ∙ full n

pub months-are : (n m : ℕ) → m < 12 → months_to (n * 12 + m) ≡ days_to n m
months-are n m h = inside n m (omega arith) (years-on n)

-- a month of any year, from that of the first cycle
pub from-cycle : (n m : ℕ) → days_to n m ≡ n / 400 * 146097 + days_to (n % 400) m
unfolding days_to
from-cycle n m =
    let e : n % 400 + n / 400 * 400 ≡ n = omega arith in
    let f : days_from n ≡ days_from (n % 400) + n / 400 * 146097 = ap days_from (sym e) ∙ cycles (n % 400) (n / 400) in
    omega (arith, f, before_same m (pos n) (pos (n % 400)) (leap-cycle n))

-- each way counts the days before a month
pub formula-is : (n m : ℕ) → m < 12 → by_formula n m ≡ days_to n m
unfolding days_to days_before
formula-is n m h = omega (arith, from_is n, months-rule (leap_year (pos n)) m h)

pub table_is : (n m : ℕ) → m < 12 → by_table n m ≡ days_to n m
unfolding by_table
table_is n m h =
    let e : get_or table (n % 400 * 12 + m) 0 ≡ days_to (n % 400) m = entry-is (n % 400 * 12 + m) (omega arith) ∙ months-are (n % 400) m h in
    omega (arith, e, from-cycle n m)

same : (f g : ℕ → ℕ → ℕ) → ((n m : ℕ) → m < 12 → f n m ≡ g n m) → (o : Option Stretch) → In o → stretch_days f o ≡ stretch_days g o
same f g e None h = refl
same f g e (Some s) h = ap {B = Result Period Refusal} (λ (b : ℕ). Ok (period_from (b + s.past) s.count)) (e s.year s.month h.2)

-- by each way a Datetime has the days of the calendar
pub formula-days : (d : Datetime) → calendar_days d ≡ stretch_days by_formula (asked d)
formula-days d = answered d ∙ same days_to by_formula (λ n m h. sym (formula-is n m h)) (asked d) (asked_in d)

pub table-days : (d : Datetime) → calendar_days d ≡ stretch_days by_table (asked d)
table-days d = answered d ∙ same days_to by_table (λ n m h. sym (table_is n m h)) (asked d) (asked_in d)

-- What a Datetime covers is what the formula gives,
pub formula-covers : (d : Datetime) → covered d ≡ days_by by_formula d
unfolding covered days_by
formula-covers d = rw (formula-days d)

-- it is what the table gives,
pub table-covers : (d : Datetime) → covered d ≡ days_by by_table d
unfolding covered days_by
table-covers d = rw (table-days d)

-- so both ways answer every Datetime alike, refusals included
pub engines-equal : (d : Datetime) → days_by by_formula d ≡ days_by by_table d
engines-equal d = sym (formula-covers d) ∙ table-covers d
