-- What the reader accepts, by the text: the years of a century or a decade, the months of a year or the days of a month, by the text's own digits.
-- Assumes nothing.
use mathlib.Core.Path.{◌≡◌, refl, sym, ap, subst, ◌∙◌}
use mathlib.Core.List.{List, ◌++◌}
use Prim.Native.Nat.{ℕ, zero, suc, ◌+◌, ◌-◌, ◌*◌, ◌^◌, ◌≤◌, ◌<◌}
use native.Mathlib.Nat.{add-zero}
use native.Mathlib.Omega.{arith}
use borrow.Author.Tests.{ltb-false, eqb-true, eqb-false}
use lib.Dec.{lit<}
use lib.IntN.{pos, nat_abs}
use lib.ListN.{length, take, drop, replicate, length-append}
use Rattle.chars.specs.Pick.{pick}
use Rattle.chars.specs.Ascii.{ascii, digit_of}
use Rattle.chars.specs.Classes.{within, is_ascii_digit}
use Rattle.chars.proofs.Cases.{by-test}
use Rattle.scanner.specs.declared.Class.TheVariants.{Whitespace, AsciiDigit, Is}
use Rattle.scanner.specs.Scan.{eat_while, part}
use Rattle.scanner.proofs.Laws.{at_least}
use Rattle.scanner.proofs.Parts.{part-grown}
use Rattle.scanner.proofs.Eaten.{eaten-long, eaten-same}
use Rattle.refusals.specs.declared.TextRefusal.{TextRefusal}
use Rattle.std.specs.Prelude.{Option, Some, None, Result, Ok, Err}
use Rattle.dates.specs.declared.Datetime.{Datetime}
use Rattle.dates.specs.Value.{datetime}
use Rattle.numbers.specs.Parse.{AllDigits, decimal_value, parse}
use Rattle.numbers.proofs.Decimal.{decimal-append, decimal-below, digits_append, eaten-denoted}
use Rattle.xranges.specs.Written.{year_chars, past_hyphens, month_chars, DigitsOf, in_year, WrittenRange, century, decade, all_months, all_days}
use Rattle.xranges.specs.Range.{hyphen_run, hyphen_from, get_hyphen, on_hyphen, on_value, years, months, days, second_run, second_at, behind_months, end_of_days, day_run, behind_month, month_run, month, months_run, behind_year, year_run, digit_run, range_from, range_dates}

-- ---- what was eaten

-- digits that are read as a number: so many of them
eaten-digits : (s : List ℕ) (at n top : ℕ) {v : ℕ} → eat_while AsciiDigit s at - at ≡ n → parse top (part s at (eat_while AsciiDigit s at)) ≡ Some v → DigitsOf n (take n (drop at s)) × (v ≡ decimal_value (take n (drop at s)))
unfolding part
eaten-digits s at n top {v} e p =
    let q = eaten-denoted s at top p in
    let l = eaten-long AsciiDigit s at in
    subst (λ (m : ℕ). DigitsOf m (take m (drop at s)) × (v ≡ decimal_value (take m (drop at s)))) e (record { all = q.0; long = l }, q.1)

-- X, so many of them
eaten-x : (s : List ℕ) (at n : ℕ) → eat_while (Is 0x58) s at - at ≡ n → take n (drop at s) ≡ replicate n 0x58
unfolding part
eaten-x s at n e = subst (λ (m : ℕ). take m (drop at s) ≡ replicate m 0x58) e (eaten-same 0x58 (lit< tt) s at)

-- ---- each step, and what goes on from it

data Good (s : List ℕ) : Result (Datetime × Datetime) TextRefusal → Type 0 where
  good : {a b : Datetime} → WrittenRange s a b → Good s (Ok (a, b))
  refused : {e : TextRefusal} → Good s (Err e)

module _ (s : List ℕ) where
  on-hyphen : (at : ℕ) (go : ℕ → Result (Datetime × Datetime) TextRefusal) → Good s (go (past_hyphens s at)) → Good s (on_hyphen (get_hyphen s at) go)
  unfolding on_hyphen get_hyphen hyphen_from hyphen_run
  on-hyphen at go g = by-test (λ r. Good s (on_hyphen r go)) _ (λ _. refused) (λ _. g)

  on_value_lem : (r : Option ℕ) {go : ℕ → Result (Datetime × Datetime) TextRefusal} → ((v : ℕ) → r ≡ Some v → Good s (go v)) → Good s (on_value r go)
  unfolding on_value
  on_value_lem (Some v) g = g v refl
  on_value_lem None g = refused

  -- the years with each digit in place of an X
  range-years : (t u v : List ℕ) → WrittenRange s (in_year (t ++ u) None None) (in_year (t ++ v) None None) → (n : ℕ) → length u ≡ n → length v ≡ n → decimal_value u ≡ 0 → decimal_value v ≡ 10 ^ n - 1 → Good s (years (decimal_value t) (10 ^ n))
  unfolding years
  range-years t u v w n lu lv eu ev =
      let a : decimal_value (t ++ u) ≡ decimal_value t * 10 ^ n = decimal-append t u ∙ rw (lu, eu) (add-zero (decimal_value t * 10 ^ n)) in
      let b : decimal_value (t ++ v) ≡ decimal_value t * 10 ^ n + (10 ^ n - 1) = decimal-append t v ∙ rw (lv, ev) in
      let y : ℕ → Datetime = λ k. datetime (pos k) None None None in
      good (subst (λ (k : ℕ). WrittenRange s (y (decimal_value t * 10 ^ n)) (y k)) b (subst (λ (k : ℕ). WrittenRange s (y k) (y (decimal_value (t ++ v)))) a w))

  years-good : (n : ℕ) {t : List ℕ} → DigitsOf n t → year_chars s ≡ t ++ replicate (4 - n) 0x58 → 2 ≤ n → n < 4 → Good s (years (decimal_value t) (10 ^ (4 - n)))
  unfolding decimal_value digit_of pick
  years-good zero d e l h = absurd (omega arith)
  years-good (suc zero) d e l h = absurd (omega arith)
  years-good (suc (suc zero)) {t} d e l h = range-years t (ascii "00") (ascii "99") (century d e) 2 refl refl refl refl
  years-good (suc (suc (suc zero))) {t} d e l h = range-years t (ascii "0") (ascii "9") (decade d e) 1 refl refl refl refl
  years-good (suc (suc (suc (suc n)))) d e l h = absurd (omega arith)

  -- behind a year of four digits
  module _ (four : DigitsOf 4 (year_chars s)) where
    abbrev year : ℕ
    year = decimal_value (year_chars s)

    months-good : month_chars s ≡ ascii "XX" → Good s (months year)
    unfolding months
    months-good e = good (all_months four e)

    behind-months : (at : ℕ) → month_chars s ≡ ascii "XX" → Good s (behind_months s at year)
    unfolding behind_months second_at second_run
    behind-months at e =
        by-test (Good s) _ (λ _. months-good e) λ _.
        on-hyphen (eat_while Whitespace s at) _ (by-test (Good s) _ (λ _. months-good e) (λ _. refused))

    days-good : (m : ℕ) → DigitsOf 2 (month_chars s) → decimal_value (month_chars s) ≡ m + 1 → m < 12 → Good s (days year m)
    unfolding days
    days-good m d e h = good (all_days four d e h)

    behind-month : (at m : ℕ) → DigitsOf 2 (month_chars s) → decimal_value (month_chars s) ≡ m + 1 → m < 12 → Good s (behind_month s at year m)
    unfolding behind_month day_run end_of_days
    behind-month at m d e h =
        on-hyphen at _ (by-test (Good s) _ (λ _. by-test (Good s) _ (λ _. days-good m d e h) (λ _. refused)) (λ _. refused))

    abbrev start : ℕ
    start = past_hyphens s (eat_while Whitespace s 0 + 4)

    month-good : Good s (month s start year)
    unfolding month month_run
    month-good =
        let e = eat_while AsciiDigit s start in
        by-test (Good s) _
        (λ t. on_value_lem (parse 255 (part s start e)) λ w p.
        by-test (Good s) _ (λ _. refused) λ n.
        by-test (Good s) _ (λ _. refused) λ l.
        let q = eaten-digits s start 2 255 (eqb-true (e - start) 2 t) p in
        behind-month e (w - 1) q.0 (omega (arith, q.1, eqb-false w 0 n)) (omega (arith, ltb-false 12 w l, eqb-false w 0 n)))
        (λ _. refused)

    behind-year : Good s (behind_year s (eat_while Whitespace s 0 + 4) year)
    unfolding behind_year months_run
    behind-year =
        let x = eat_while (Is 0x58) s start in
        on-hyphen (eat_while Whitespace s 0 + 4) _
        (by-test (Good s) _ (λ _. month-good) λ _.
        by-test (Good s) _ (λ t. behind-months x (eaten-x s start 2 (eqb-true (x - start) 2 t))) (λ _. refused))

  -- the four characters of the year
  abbrev a : ℕ
  a = eat_while Whitespace s 0

  abbrev c : ℕ
  c = eat_while AsciiDigit s a

  abbrev x : ℕ
  x = eat_while (Is 0x58) s c

  year-chars : (n : ℕ) → c - a ≡ n → n ≤ 4 → x - c ≡ 4 - n → year_chars s ≡ take n (drop a s) ++ replicate (4 - n) 0x58
  unfolding part
  year-chars n e h f =
      let lc = at_least AsciiDigit s a in
      let z : c + (4 - n) - a ≡ 4 = omega arith in
      ap (λ (m : ℕ). take m (drop a s)) (sym z) ∙ part-grown s a c (4 - n) lc
      ∙ rw (e, eaten-x s c (4 - n) f)

  range-good : Good s (range_dates s)
  unfolding range_dates range_from digit_run year_run
  range-good =
      by-test (Good s) _ (λ _. refused) λ l.
      by-test (Good s) _ (λ _. refused) λ h.
      by-test (Good s) _
      (λ f. on_value_lem (parse 9999 (part s a c)) λ v p.
      let n = c - a in
      let ln : n ≤ 4 = ltb-false 4 n l in
      let q = eaten-digits s a n 9999 refl p in
      let y = year-chars n refl ln (eqb-true (x - c) (4 - n) f) in
      by-test (Good s) _
      (λ g.
      let n4 = eqb-true n 4 g in
      let p4 = eaten-digits s a 4 9999 n4 p in
      let z : x ≡ a + 4 = omega (arith, at_least AsciiDigit s a, at_least (Is 0x58) s c, eqb-true (x - c) (4 - n) f) in
      rw (z, p4.1) (behind-year p4.0))
      (λ g. rw q.1 (years-good n q.0 y (ltb-false n 2 h) (omega (arith, eqb-false n 4 g)))))
      (λ _. refused)

of-good : {s : List ℕ} {a b : Datetime} → Good s (Ok (a, b)) → WrittenRange s a b
of-good (good w) = w

-- every range that the reader gives is one of them
pub written-range : (s : List ℕ) {a b : Datetime} → range_dates s ≡ Ok (a, b) → WrittenRange s a b
written-range s e = of-good (subst (Good s) e (range-good s))

-- ---- how large their years are

all-below : {t : List ℕ} → DigitsOf 4 t → decimal_value t < 10000
all-below {t} d = rw d.long at (decimal-below t d.all)

filled-below : (t u : List ℕ) {n : ℕ} → DigitsOf n t → AllDigits u → n + length u ≡ 4 → decimal_value (t ++ u) < 10000
filled-below t u d a e = all-below (record { all = digits_append t u d.all a; long = length-append t u ∙ ap (λ (m : ℕ). m + length u) d.long ∙ e })

-- they are below 10000
pub range-below : {s : List ℕ} {a b : Datetime} → WrittenRange s a b → (nat_abs a.year < 10000) × (nat_abs b.year < 10000)
unfolding is_ascii_digit within
range-below (century {t} d e) = (filled-below t (ascii "00") d (refl, (refl, tt)) refl, filled-below t (ascii "99") d (refl, (refl, tt)) refl)
range-below (decade {t} d e) = (filled-below t (ascii "0") d (refl, tt) refl, filled-below t (ascii "9") d (refl, tt) refl)
range-below (all_months d e) = (all-below d, all-below d)
range-below (all_days d e f h) = (all-below d, all-below d)
