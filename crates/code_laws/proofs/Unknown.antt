-- Years, months and days that are unknown: an X range of the ported reader.
-- Assumes nothing.
use mathlib.Core.Path.{◌≡◌, refl, sym, ap, ◌∙◌, subst}
use mathlib.Core.Bool.{true, false, ◌&&◌}
use mathlib.Core.List.{List, [], ◌∷◌, ◌++◌}
use mathlib.Core.Logic.{inl, inr}
use Prim.Native.Nat.{ℕ, ◌+◌, ◌*◌, ◌≤◌, ◌<◌}
use native.Mathlib.Omega.{arith}
use borrow.Author.Tests.{eqb-true, ltb-true}
use lib.Dec.{eqb, ltb, lit<}
use lib.IntN.{pos}
use lib.ListN.{length, get_or, drop}
use Rattle.chars.proofs.Cases.{by-test, and-true}
use Rattle.chars.proofs.Spelled.{bytes_at, spelled, entries}
use Rattle.dates.specs.declared.Day.{Day}
use Rattle.dates.specs.declared.Month.{Month}
use Rattle.std.specs.Prelude.{Option, None, Ok}
use Rattle.dates.specs.declared.DateValue.{DateValue}
use Rattle.dates.specs.declared.DateValue.TheVariants.{At, After, Before, Between}
use Rattle.dates.specs.Value.{datetime, date, month, day}
use Rattle.refusals.specs.declared.FileSpan.{FileSpan}
use Rattle.datefield.specs.Value.{value}
use Rattle.strict.specs.Canonical.{part_text}
use Rattle.strict.specs.Digits.{digits}
use Rattle.strict.specs.Grammar.{field, Unknown, dd_xx, dddd_XX}
use Rattle.strict.specs.Grammar
use Rattle.dates.specs.Ends.{EachEnd}
use Rattle.roundtrip_laws.specs.Domain.{ShortDays, dddd_mm_XX}
use Rattle.roundtrip_laws.specs.Ported.{PortedReads}
use Rattle.roundtrip_laws.proofs.Agrees.{unknown-text}
use Rattle.roundtrip_laws.proofs.Unknown.{days-said, unknown-value}
use Rattle.codes.specs.Points.{two_at, year_of, part_at}
use Rattle.codes.specs.Ported.{is_unknown, years_of, months_of, days_of, range}
use Rattle.codes.specs.Words.{has_day, month_number, day_number}
use Rattle.codes.specs.Typed.{DatetimeTyped}
use Rattle.code_laws.proofs.Points.{two-are, cons_same, ended, year-text, part-text}
use Rattle.code_laws.proofs.Typed.{untimed-typed}
use Rattle.code_laws.proofs.Says.{Says, Saying, value-says}

-- a year of four digits, and a month and a day that are bytes, are of their types
four-typed : (y : ℕ) (m : Option Month) (d : Option Day) → y < 10000 → month_number m < 256 → day_number d < 256 → DatetimeTyped (datetime (pos y) m d None)
four-typed y m d h l k = untimed-typed (pos y) m d (omega arith) l k

-- where two X stand
unknown-there : (s : List ℕ) (at : ℕ) → is_unknown s at ≡ true → (get_or s at 0 ≡ 0x58) × (get_or s (at + 1) 0 ≡ 0x58)
unfolding is_unknown
unknown-there s at t = let p = and-true (eqb (get_or s at 0) 0x58) _ t in (eqb-true _ 0x58 p.0, eqb-true _ 0x58 p.1)

-- the two readers differ in days alone
abbrev day_of : DateValue → ℕ
day_of (At a) = has_day a.day
day_of (After a) = has_day a.day
day_of (Before a) = has_day a.day
day_of (Between a b) = has_day a.day

short-dayed : {s : List ℕ} {v w : DateValue} → ShortDays s v w → day_of v ≡ 1
short-dayed (dddd_mm_XX n h f k) = refl

undayed : (span : FileSpan) {s : List ℕ} {v : DateValue} → day_of v ≡ 0 → PortedReads span s v → value span s ≡ Ok v
undayed span z (inl e) = e
undayed span z (inr (w, x, e)) = let o = short-dayed x in absurd (omega arith)

-- as the strict grammar derives them: the years of a century, the months of a year
module _ {s : List ℕ} {v : DateValue} (x : Unknown s v) where
  derived-says : day_of v ≡ 0 → EachEnd DatetimeTyped v → Says s (Ok (date v false false))
  derived-says z t = value-says (unknown-text x) (λ span. undayed span z (unknown-value span x)) t

pub years-say : (s : List ℕ) → length s ≡ 4 → Saying s (years_of s)
unfolding years_of
years-say s n =
    by-test (Saying s) (is_unknown s 2 && ltb (two_at s 0) 100)
    (λ t.
    let p = and-true (is_unknown s 2) _ t in
    let x = unknown-there s 2 p.0 in
    let y = two_at s 0 in
    let h = ltb-true y 100 p.1 in
    let e : digits 2 y ++ 0x58 ∷ 0x58 ∷ [] ≡ s =
    ap (λ (l : List ℕ). l ++ 0x58 ∷ 0x58 ∷ []) (sym (two-are (get_or s 0 0) (get_or s 1 0) h))
    ∙ cons_same refl (cons_same refl (cons_same (sym x.0) (cons_same (sym x.1) refl)))
    ∙ entries 4 s n
    in
    subst (λ (l : List ℕ). Says l (range (datetime (pos (y * 100)) None None None) (datetime (pos (y * 100 + 99)) None None None))) e
    (derived-says (dd_xx y h) refl (four-typed (y * 100) None None (omega arith) (lit< tt) (lit< tt), four-typed (y * 100 + 99) None None (omega arith) (lit< tt) (lit< tt))))
    (λ _. tt)

-- a hyphen and two X at the end of a text
end_is : (s : List ℕ) (i : ℕ) → length s ≡ 3 + i → bytes_at 3 i s ≡ 0x2D ∷ 0x58 ∷ 0x58 ∷ [] → drop i s ≡ 0x2D ∷ 0x58 ∷ 0x58 ∷ []
end_is s i n e = spelled 3 i s (omega arith) ∙ ap (λ (l : List ℕ). l ++ drop (3 + i) s) e ∙ ap (λ (l : List ℕ). 0x2D ∷ 0x58 ∷ 0x58 ∷ l) (ended s (3 + i) n)

three-are : {a b c : ℕ} → a ≡ 0x2D → (b ≡ 0x58) × (c ≡ 0x58) → a ∷ b ∷ c ∷ [] ≡ 0x2D ∷ 0x58 ∷ 0x58 ∷ []
three-are h x = cons_same h (cons_same x.0 (cons_same x.1 refl))

pub months-say : (s : List ℕ) → length s ≡ 7 → Saying s (months_of s)
unfolding months_of
months-say s n =
    by-test (Saying s) (is_unknown s 5 && (ltb (year_of s) 10000 && eqb (get_or s 4 0) 0x2D))
    (λ t.
    let p = and-true (is_unknown s 5) _ t in
    let q = and-true (ltb (year_of s) 10000) _ p.1 in
    let y = year_of s in
    let h = ltb-true y 10000 q.0 in
    let e : s ≡ digits 4 y ++ 0x2D ∷ 0x58 ∷ 0x58 ∷ [] =
    year-text s (omega arith) h ∙ ap (λ (l : List ℕ). digits 4 y ++ l) (end_is s 4 n (three-are (eqb-true _ 0x2D q.1) (unknown-there s 5 p.0)))
    in
    subst (λ (l : List ℕ). Says l (range (datetime (pos y) (month 0) None None) (datetime (pos y) (month 11) None None))) (sym e)
    (derived-says (dddd_XX y h) refl (four-typed y (month 0) None h (lit< tt) (lit< tt), four-typed y (month 11) None h (lit< tt) (lit< tt))))
    (λ _. tt)

-- the days of a month: 31 of them, whatever its length
pub days-say : (s : List ℕ) → length s ≡ 10 → is_unknown s 8 ≡ true → Saying s (days_of s)
unfolding days_of part_text
days-say s n u =
    by-test (Saying s) (ltb (year_of s) 10000 && (ltb (part_at s 4) 12 && eqb (get_or s 7 0) 0x2D))
    (λ t.
    let p = and-true (ltb (year_of s) 10000) _ t in
    let q = and-true (ltb (part_at s 4) 12) _ p.1 in
    let y = year_of s in
    let m = part_at s 4 in
    let h = ltb-true y 10000 p.0 in
    let l = ltb-true m 12 q.0 in
    let k : 1 + m ≤ 12 = omega arith in
    let e : s ≡ digits 4 y ++ ((0x2D ∷ digits 2 (1 + m)) ++ 0x2D ∷ 0x58 ∷ 0x58 ∷ []) =
    year-text s (omega arith) h
    ∙ ap (λ (l : List ℕ). digits 4 y ++ l)
    (part-text s 4 (omega arith) (omega arith)
    ∙ ap (λ (l : List ℕ). (0x2D ∷ digits 2 (1 + m)) ++ l) (end_is s 7 n (three-are (eqb-true _ 0x2D q.1) (unknown-there s 8 u))))
    in
    subst (λ (l : List ℕ). Says l (range (datetime (pos y) (month m) (day 0) None) (datetime (pos y) (month m) (day 30) None))) (sym e)
    (value-says (unknown-text (Grammar.dddd_mm_XX y h (field m k))) (λ span. days-said span y m h k) (four-typed y (month m) (day 0) h (omega arith) (lit< tt), four-typed y (month m) (day 30) h (omega arith) (lit< tt))))
    (λ _. tt)
