-- What the reader accepts: years, the months of a year or the days of a month, in years of at most four digits.
-- Assumes nothing.
use mathlib.Core.Path.{◌≡◌, refl, subst}
use mathlib.Core.List.{List}
use Prim.Native.Nat.{ℕ, zero, suc, ◌+◌, ◌-◌, ◌*◌, ◌^◌, ◌≤◌, ◌<◌}
use native.Mathlib.Omega.{arith}
use borrow.Author.Tests.{ltb-false, eqb-false}
use Rattle.chars.proofs.Cases.{by-test}
use Rattle.scanner.specs.declared.Class.TheVariants.{Whitespace, AsciiDigit, Is}
use Rattle.scanner.specs.Scan.{eat_while, part}
use Rattle.scanner.proofs.Parts.{part-short}
use Rattle.refusals.specs.declared.TextRefusal.{TextRefusal}
use Rattle.dates.specs.declared.Datetime.{Datetime}
use Rattle.scanner.specs.declared.Cursor.{Cursor}
use Rattle.std.specs.Prelude.{Option, Some, None, Result, Ok, Err}
use Rattle.numbers.specs.Parse.{parse}
use Rattle.numbers.proofs.Whole.{value_in, value-digits}
use Rattle.xranges.specs.Accepted.{XRange, some_years, all_months, all_days}
use Rattle.xranges.specs.Range.{get_hyphen, on_hyphen, on_value, years, months, days, second_run, second_at, behind_months, end_of_days, day_run, behind_month, month_run, month, months_run, behind_year, year_run, digit_run, range_from, range_dates}

data Good : Result (Datetime × Datetime) TextRefusal → Type 0 where
  good : {a b : Datetime} → XRange a b → Good (Ok (a, b))
  refused : {e : TextRefusal} → Good (Err e)

-- each step, and what goes on from it
on-hyphen : (r : Result Cursor TextRefusal) {go : ℕ → Result (Datetime × Datetime) TextRefusal} → ((c : ℕ) → Good (go c)) → Good (on_hyphen r go)
unfolding on_hyphen
on-hyphen (Ok c) g = g c.0
on-hyphen (Err e) g = refused

on_value_lem : (r : Option ℕ) {go : ℕ → Result (Datetime × Datetime) TextRefusal} → ((v : ℕ) → r ≡ Some v → Good (go v)) → Good (on_value r go)
unfolding on_value
on_value_lem (Some v) g = g v refl
on_value_lem None g = refused

months-good : (year : ℕ) → year < 10000 → Good (months year)
unfolding months
months-good year h = good (all_months h)

days-good : (year m : ℕ) → year < 10000 → m < 12 → Good (days year m)
unfolding days
days-good year m h l = good (all_days h l)

behind-months : (s : List ℕ) (at year : ℕ) → year < 10000 → Good (behind_months s at year)
unfolding behind_months second_at second_run
behind-months s at year h =
    by-test Good _ (λ _. months-good year h) λ _.
    on-hyphen (get_hyphen s (eat_while Whitespace s at)) λ c.
    by-test Good _ (λ _. months-good year h) (λ _. refused)

behind-month : (s : List ℕ) (at year m : ℕ) → year < 10000 → m < 12 → Good (behind_month s at year m)
unfolding behind_month day_run end_of_days
behind-month s at year m h l =
    on-hyphen (get_hyphen s at) λ c.
    by-test Good _ (λ _. by-test Good _ (λ _. days-good year m h l) (λ _. refused)) (λ _. refused)

month-good : (s : List ℕ) (start year : ℕ) → year < 10000 → Good (month s start year)
unfolding month month_run
month-good s start year h =
    by-test Good _
    (λ _. on_value_lem (parse 255 (part s start (eat_while AsciiDigit s start))) λ w _.
    by-test Good _ (λ _. refused) λ n.
    by-test Good _ (λ _. refused) λ l.
    behind-month s (eat_while AsciiDigit s start) year (w - 1) h (omega (arith, ltb-false 12 w l, eqb-false w 0 n)))
    (λ _. refused)

behind-year : (s : List ℕ) (at year : ℕ) → year < 10000 → Good (behind_year s at year)
unfolding behind_year months_run
behind-year s at year h =
    on-hyphen (get_hyphen s at) λ c.
    by-test Good _ (λ _. month-good s c year h) λ _.
    by-test Good _ (λ _. behind-months s (eat_while (Is 0x58) s c) year h) (λ _. refused)

-- the last year of a century or a decade
last-year : (n digits : ℕ) → 2 ≤ n → n ≤ 4 → digits < 10 ^ n → digits * 10 ^ (4 - n) + (10 ^ (4 - n) - 1) < 10000
last-year zero digits h l d = absurd (omega arith)
last-year (suc zero) digits h l d = absurd (omega arith)
last-year (suc (suc zero)) digits h l d = omega arith
last-year (suc (suc (suc zero))) digits h l d = omega arith
last-year (suc (suc (suc (suc zero)))) digits h l d = omega arith
last-year (suc (suc (suc (suc (suc n))))) digits h l d = absurd (omega arith)

years-good : (n digits : ℕ) → 2 ≤ n → n ≤ 4 → digits < 10 ^ n → Good (years digits (10 ^ (4 - n)))
unfolding years
years-good n digits h l d = let t = last-year n digits h l d in good (some_years {y = digits * 10 ^ (4 - n)} (omega arith) t)

range-good : (s : List ℕ) → Good (range_dates s)
unfolding range_dates range_from digit_run year_run
range-good s =
    let a = eat_while Whitespace s 0 in
    let c = eat_while AsciiDigit s a in
    by-test Good _ (λ _. refused) λ l.
    by-test Good _ (λ _. refused) λ h.
    by-test Good _
    (λ _. on_value_lem (parse 9999 (part s a c)) λ v e.
    by-test Good _ (λ _. behind-year s (eat_while (Is 0x58) s c) v (omega (arith, value_in 9999 _ e)))
    λ _. years-good (c - a) v (ltb-false _ _ h) (ltb-false _ _ l) (value-digits 9999 (part s a c) (c - a) (part-short s a c) e))
    (λ _. refused)

of-good : {a b : Datetime} → Good (Ok (a, b)) → XRange a b
of-good (good w) = w

-- every range that the reader gives is one of them
pub accepted-range : (s : List ℕ) {a b : Datetime} → range_dates s ≡ Ok (a, b) → XRange a b
accepted-range s e = of-good (subst Good e (range-good s))
