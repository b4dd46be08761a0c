-- The ported reader gives the days of a month for the texts dddd-mm-XX alone, with white space and more hyphens where it admits them.
-- Assumes nothing.
use mathlib.Core.Path.{◌≡◌, refl, sym, ap, ◌∙◌, subst}
use mathlib.Core.Bool.{true}
use mathlib.Core.List.{List, [], ◌∷◌, ◌++◌, append-nil, append_assoc}
use Prim.Native.Nat.{ℕ, ◌+◌, ◌-◌, ◌/◌, ◌%◌, ◌≤◌, ◌<◌}
use native.Mathlib.Omega.{arith}
use native.Mathlib.Nat.{le_refl}
use native.Mathlib.Decide.{dec_lt}
use borrow.Author.Tests.{eqb-true, eqb-false, leb-true}
use lib.Dec.{eqb, ltb, leb, lit<}
use lib.IntN.{pos}
use lib.ListN.{length, take, drop, replicate, length-drop, take-append-drop, drop_of_length-le}
use lib.Seq.{take-add, drop-drop, length-take-le}
use Rattle.chars.specs.Pick.{pick}
use Rattle.chars.specs.Classes.{within, is_ascii_digit}
use Rattle.chars.specs.Utf8.{decode_at, encode}
use Rattle.chars.specs.declared.Decoded.{Decoded}
use Rattle.chars.specs.declared.Decoded.TheVariants.{Char, Bad, End}
use Rattle.chars.proofs.Cases.{by-test, of_test, and-true}
use Rattle.chars.proofs.Encode.{encode_one}
use Rattle.chars.proofs.Laws.{found}
use Rattle.scanner.specs.declared.Class.{Class}
use Rattle.scanner.specs.declared.Class.TheVariants.{Whitespace, AsciiDigit, Is}
use Rattle.scanner.specs.Class.{in_class}
use Rattle.scanner.specs.Scan.{len_in, match_len, eat_while, done_at, part}
use Rattle.scanner.proofs.Laws.{kept, at_least, inside-some}
use Rattle.numbers.proofs.Reading.{bytes, value as number, AreDigits}
use Rattle.dates.specs.declared.Day.{Day}
use Rattle.std.specs.Prelude.{Option, Some, None, Result, Ok, Err}
use Rattle.numbers.specs.Parse.{parse}
use Rattle.points.proofs.Back.{two, four}
use Rattle.refusals.specs.declared.FileSpan.{FileSpan}
use Rattle.refusals.specs.declared.TextRefusal.{TextRefusal}
use Rattle.chunks.specs.Format.{formatted}
use Rattle.chunks.specs.Upper.{uppercase}
use Rattle.dates.specs.declared.Datetime.{Datetime}
use Rattle.dates.specs.declared.DateValue.{DateValue}
use Rattle.dates.specs.declared.DateValue.TheVariants.{At, After, Before, Between}
use Rattle.dates.specs.declared.Date.{Date}
use Rattle.dates.specs.Value.{datetime, month as stored, day}
use Rattle.xranges.specs.Range.{hyphen_run, hyphen_from, get_hyphen, on_hyphen, on_value, years, months, days, second_run, second_at, behind_months, end_of_days, day_run, behind_month, month_run, month, months_run, behind_year, year_run, digit_run, range_from, range_dates}
use Rattle.datefield.specs.Text.{trimmed, unmarked}
use Rattle.datefield.specs.Value.{x_range, value}
use Rattle.reading_laws.specs.Field.{parsed}
use Rattle.roundtrip_laws.specs.Domain.{AllDated, ShortMonthRange, days_xx, days_upto}
use Rattle.roundtrip_laws.proofs.Accepted.{Holds, holds, fails, of-x, of-accepted}
use Rattle.roundtrip_laws.specs.Days.{ClassRun, Hyphens, hyphens, DaysText, dddd_mm_XX}
use Rattle.roundtrip_laws.specs.Days.ClassRun.{none, more}
use Rattle.roundtrip_laws.proofs.Runs.{parse-is}

-- ---- runs

run-snoc : (k : Class) {w : List ℕ} (c : ℕ) → ClassRun k w → in_class k c ≡ true → ClassRun k (w ++ encode c)
run-snoc k c none e = subst (ClassRun k) (append-nil (encode c)) (more c e none)
run-snoc k c (more b {t} h r) e = subst (ClassRun k) (sym (append_assoc (encode b) t (encode c))) (more b h (run-snoc k c r e))

module _ (k : Class) (s : List ℕ) where
  matched : (i : ℕ) (d : Decoded) → decode_at s i ≡ d → 0 < len_in k d → (c : ℕ) × (in_class k c ≡ true) × (encode c ≡ take (len_in k d) (drop i s))
  unfolding len_in pick
  matched i (Char c n) e h = of_test (in_class k c) (λ t. (c, t, rw t (found s i e).bytes)) (λ t. absurd (let z : 0 < 0 = rw t at h in omega arith))
  matched i Bad e h = absurd (omega arith)
  matched i End e h = absurd (omega arith)

  grown : (at i l : ℕ) → at ≤ i → part s at (i + l) ≡ part s at i ++ take l (drop i s)
  unfolding part
  grown at i l h =
      let e : i + l - at ≡ (i - at) + l = omega arith in
      let f : at + (i - at) ≡ i = omega arith in
      ap (λ (n : ℕ). take n (drop at s)) e ∙ take-add (i - at) l (drop at s)
      ∙ ap (λ (t : List ℕ). take (i - at) (drop at s) ++ take l t) (drop-drop (i - at) at s ∙ ap (λ (n : ℕ). drop n s) f)

  start : (at : ℕ) → ClassRun k (part s at at)
  unfolding part
  start at = let e : at - at ≡ 0 = omega arith in subst (λ (n : ℕ). ClassRun k (take n (drop at s))) (sym e) none

  step : (at i : ℕ) → 0 < match_len k s i → (at ≤ i) × ClassRun k (part s at i) → (at ≤ i + match_len k s i) × ClassRun k (part s at (i + match_len k s i))
  unfolding match_len
  step at i h p =
      let m = matched i (decode_at s i) refl h in
      (omega (arith, p.0), subst (ClassRun k) (sym (grown at i (len_in k (decode_at s i)) p.0 ∙ ap (λ (t : List ℕ). part s at i ++ t) (sym m.2))) (run-snoc k m.0 p.1 m.1))

  -- what was eaten is a run
  eaten-run : (at : ℕ) → ClassRun k (part s at (eat_while k s at))
  eaten-run at = (kept k s (λ j. (at ≤ j) × ClassRun k (part s at j)) (step at) at (le_refl at, start at)).1

  eaten-long : (at : ℕ) → length (part s at (eat_while k s at)) ≡ eat_while k s at - at
  unfolding part
  eaten-long at =
      let e = eat_while k s at in
      elim (dec_lt at e) [
        | yes l ↦ length-take-le (e - at) (drop at s) (omega (arith, inside-some k s at l, length-drop at s))
        | no l ↦ let z : e - at ≡ 0 = omega (arith, l) in ap (λ (n : ℕ). length (take n (drop at s))) z ∙ sym z
      ]

-- a text from a place on: a part of it, and the rest
cut : (s : List ℕ) (a b : ℕ) → a ≤ b → drop a s ≡ part s a b ++ drop b s
unfolding part
cut s a b h =
    let f : a + (b - a) ≡ b = omega arith in
    sym (take-append-drop (b - a) (drop a s)) ∙ ap (λ (t : List ℕ). take (b - a) (drop a s) ++ t) (drop-drop (b - a) a s ∙ ap (λ (n : ℕ). drop n s) f)

-- ---- digits

digit-of : (c : ℕ) → in_class AsciiDigit c ≡ true → (d : ℕ) × (d < 10) × (c ≡ 48 + d)
unfolding in_class is_ascii_digit within
digit-of c e =
    let p = and-true (leb 0x30 c) (leb c 0x39) e in
    let l = leb-true 0x30 c p.0 in
    let h = leb-true c 0x39 p.1 in
    (c - 48, omega arith, omega arith)

digits_of : {w : List ℕ} → ClassRun AsciiDigit w → (ds : List ℕ) × AreDigits ds × (w ≡ bytes ds)
digits_of none = ([], tt, refl)
digits_of (more c {t} e r) =
    let d = digit-of c e in
    let q = digits_of r in (
      d.0 ∷ q.0,
      (d.1, q.1),
      ap (λ (l : List ℕ). l ++ t) (encode_one c (omega (arith, d.1, d.2))) ∙ ap (λ (x : ℕ). x ∷ t) d.2 ∙ ap (λ (l : List ℕ). (48 + d.0) ∷ l) q.2,
    )

four-of : (ds : List ℕ) (y : ℕ) → AreDigits ds → length (bytes ds) ≡ 4 → parse 9999 (bytes ds) ≡ Some y → bytes ds ≡ bytes (four y)
four-of [] y h l e = absurd (omega arith)
four-of (a ∷ []) y h l e = absurd (omega arith)
four-of (a ∷ b ∷ []) y h l e = absurd (omega arith)
four-of (a ∷ b ∷ c ∷ []) y h l e = absurd (omega arith)
four-of (a ∷ b ∷ c ∷ d ∷ []) y h l e =
    let ha = h.0 in
    let hb = h.1.0 in
    let hc = h.1.1.0 in
    let hd = h.1.1.1.0 in
    let p = parse-is a (b ∷ c ∷ d ∷ []) 9999 h (omega arith) in
    let z : number 0 (a ∷ b ∷ c ∷ d ∷ []) ≡ y = cc in
    let ea : y / 10 / 10 / 10 % 10 ≡ a = omega arith in
    let eb : y / 10 / 10 % 10 ≡ b = omega arith in
    let ec : y / 10 % 10 ≡ c = omega arith in
    let ed : y % 10 ≡ d = omega arith in
    rw (ea, eb, ec, ed)
four-of (a ∷ b ∷ c ∷ d ∷ x ∷ ds) y h l e = absurd (omega arith)

two-of : (ds : List ℕ) (n : ℕ) → AreDigits ds → length (bytes ds) ≡ 2 → parse 255 (bytes ds) ≡ Some n → bytes ds ≡ bytes (two n)
two-of [] n h l e = absurd (omega arith)
two-of (a ∷ []) n h l e = absurd (omega arith)
two-of (a ∷ b ∷ []) n h l e =
    let ha = h.0 in
    let hb = h.1.0 in
    let p = parse-is a (b ∷ []) 255 h (omega arith) in
    let z : number 0 (a ∷ b ∷ []) ≡ n = cc in
    let ea : n / 10 % 10 ≡ a = omega arith in
    let eb : n % 10 ≡ b = omega arith in
    rw (ea, eb)
two-of (a ∷ b ∷ x ∷ ds) n h l e = absurd (omega arith)

four_digits : {w : List ℕ} (y : ℕ) → ClassRun AsciiDigit w → length w ≡ 4 → parse 9999 w ≡ Some y → w ≡ bytes (four y)
four_digits y r l e = let q = digits_of r in q.2 ∙ four-of q.0 y q.1 (sym (ap length q.2) ∙ l) (sym (ap (parse 9999) q.2) ∙ e)

two_digits : {w : List ℕ} (n : ℕ) → ClassRun AsciiDigit w → length w ≡ 2 → parse 255 w ≡ Some n → w ≡ bytes (two n)
two_digits n r l e = let q = digits_of r in q.2 ∙ two-of q.0 n q.1 (sym (ap length q.2) ∙ l) (sym (ap (parse 255) q.2) ∙ e)

-- X and X
same-run : (b : ℕ) → b < 0x80 → {w : List ℕ} → ClassRun (Is b) w → w ≡ replicate (length w) b
unfolding in_class
same-run b h none = refl
same-run b h (more c {t} e r) =
    let q : encode c ≡ b ∷ [] = ap encode (eqb-true c b e) ∙ encode_one b h in
    subst (λ (l : List ℕ). l ++ t ≡ replicate (length (l ++ t)) b) (sym q) (ap (λ (l : List ℕ). b ∷ l) (same-run b h r))

two-x : {w : List ℕ} → ClassRun (Is 0x58) w → length w ≡ 2 → w ≡ 0x58 ∷ 0x58 ∷ []
two-x r h = same-run 0x58 (lit< tt) r ∙ ap (λ (n : ℕ). replicate n 0x58) h

-- ---- hyphens

joined : (s : List ℕ) (a b c : ℕ) → a ≤ b → b ≤ c → part s a c ≡ part s a b ++ part s b c
unfolding part
joined s a b c h l = let e : b + (c - b) ≡ c = omega arith in ap (part s a) (sym e) ∙ grown Whitespace s a b (c - b) h

-- ---- the reader

data Shaped (s : List ℕ) : Result (Datetime × Datetime) TextRefusal → Type 0 where
  of_days : {y m : ℕ} → DaysText s y m → Shaped s (Ok (datetime (pos y) (stored m) (day 0) None, datetime (pos y) (stored m) (day 30) None))
  of_others : {a b : Datetime} → a.day ≡ None → Shaped s (Ok (a, b))
  refused : {e : TextRefusal} → Shaped s (Err e)

on_value_lem : {s : List ℕ} (r : Option ℕ) {go : ℕ → Result (Datetime × Datetime) TextRefusal} → ((v : ℕ) → r ≡ Some v → Shaped s (go v)) → Shaped s (on_value r go)
unfolding on_value
on_value_lem (Some v) g = g v refl
on_value_lem None g = refused

behind-hyphen : (s : List ℕ) (at : ℕ) {go : ℕ → Result (Datetime × Datetime) TextRefusal} → ((c : ℕ) → at ≤ c → Hyphens (part s at c) → Shaped s (go c)) → Shaped s (on_hyphen (get_hyphen s at) go)
unfolding get_hyphen hyphen_from hyphen_run on_hyphen
behind-hyphen s at {go} g =
    let a = eat_while Whitespace s at in
    let e = eat_while (Is 0x2D) s a in
    let c = eat_while Whitespace s e in
    let la = at_least Whitespace s at in
    let le = at_least (Is 0x2D) s a in
    let lc = at_least Whitespace s e in
    by-test (λ r. Shaped s (on_hyphen r go)) (eqb (e - a) 0) (λ _. refused)
    (λ t. g c (omega arith)
    (subst Hyphens (sym (joined s at a c la (omega arith) ∙ ap (λ (r : List ℕ). part s at a ++ r) (joined s a e c le lc)))
    (hyphens (eaten-run Whitespace s at) (eaten-run (Is 0x2D) s a) (omega (arith, eaten-long (Is 0x2D) s a, eqb-false (e - a) 0 t)) (eaten-run Whitespace s e))))

months-shaped : {s : List ℕ} (y : ℕ) → Shaped s (months y)
unfolding months
months-shaped y = of_others refl

behind-months : (s : List ℕ) (at y : ℕ) → Shaped s (behind_months s at y)
unfolding behind_months second_at second_run
behind-months s at y =
    by-test (Shaped s) _ (λ _. months-shaped y) λ _.
    behind-hyphen s (eat_while Whitespace s at) λ c _ _.
    by-test (Shaped s) _ (λ _. months-shaped y) (λ _. refused)

days-shaped : {s : List ℕ} (y m : ℕ) → DaysText s y m → Shaped s (days y m)
unfolding days
days-shaped y m t = of_days t

years-shaped : {s : List ℕ} (digits variable : ℕ) → Shaped s (years digits variable)
unfolding years
years-shaped digits variable = of_others refl

module _ (s : List ℕ) {u : List ℕ} (y : ℕ) (ru : ClassRun Whitespace u) where
  behind-month : (at m : ℕ) {h : List ℕ} → Hyphens h → s ≡ u ++ (bytes (four y) ++ (h ++ (bytes (two (m + 1)) ++ drop at s))) → Shaped s (behind_month s at y m)
  unfolding behind_month day_run end_of_days done_at
  behind-month at m {h} rh pre =
      behind-hyphen s at λ c l g.
      let x = eat_while (Is 0x58) s c in
      let v = eat_while Whitespace s x in
      by-test (Shaped s) (eqb (x - c) 2)
      (λ t. by-test (Shaped s) (leb (length s) v)
      (λ f.
      let rest : drop at s ≡ part s at c ++ (0x58 ∷ 0x58 ∷ part s x v) =
      cut s at c l
      ∙ ap (λ (r : List ℕ). part s at c ++ r)
      (cut s c x (at_least (Is 0x58) s c) ∙ ap (λ (r : List ℕ). r ++ drop x s) (two-x (eaten-run (Is 0x58) s c) (eaten-long (Is 0x58) s c ∙ eqb-true (x - c) 2 t))
      ∙ ap (λ (r : List ℕ). 0x58 ∷ 0x58 ∷ r)
      (cut s x v (at_least Whitespace s x) ∙ ap (λ (r : List ℕ). part s x v ++ r) (drop_of_length-le s (leb-true (length s) v f)) ∙ append-nil (part s x v))) in
      days-shaped y m
      (subst (λ (r : List ℕ). DaysText r y m) (sym (pre ∙ ap (λ (r : List ℕ). u ++ (bytes (four y) ++ (h ++ (bytes (two (m + 1)) ++ r)))) rest))
      (dddd_mm_XX {y = y} {m = m} ru rh g (eaten-run Whitespace s x))))
      (λ _. refused))
      (λ _. refused)

  month-shaped : (at : ℕ) {h : List ℕ} → Hyphens h → s ≡ u ++ (bytes (four y) ++ (h ++ drop at s)) → Shaped s (month s at y)
  unfolding month month_run
  month-shaped at {h} rh pre =
      let e = eat_while AsciiDigit s at in
      by-test (Shaped s) (eqb (e - at) 2)
      (λ t. on_value_lem (parse 255 (part s at e)) λ w q.
      by-test (Shaped s) (eqb w 0) (λ _. refused) λ n.
      by-test (Shaped s) (ltb 12 w) (λ _. refused) λ _.
      let k : w ≡ w - 1 + 1 = omega (arith, eqb-false w 0 n) in
      behind-month e (w - 1) rh
      (pre
      ∙ ap (λ (r : List ℕ). u ++ (bytes (four y) ++ (h ++ r)))
      (cut s at e (at_least AsciiDigit s at)
      ∙ ap (λ (r : List ℕ). r ++ drop e s) (two_digits w (eaten-run AsciiDigit s at) (eaten-long AsciiDigit s at ∙ eqb-true (e - at) 2 t) q ∙ ap (λ (j : ℕ). bytes (two j)) k))))
      (λ _. refused)

  behind-year : (at : ℕ) → s ≡ u ++ (bytes (four y) ++ drop at s) → Shaped s (behind_year s at y)
  unfolding behind_year months_run
  behind-year at pre =
      behind-hyphen s at λ c l h.
      by-test (Shaped s) _ (λ _. month-shaped c h (pre ∙ ap (λ (r : List ℕ). u ++ (bytes (four y) ++ r)) (cut s at c l))) λ _.
      by-test (Shaped s) _ (λ _. behind-months s (eat_while (Is 0x58) s c) y) (λ _. refused)

range-shaped : (s : List ℕ) → Shaped s (range_dates s)
unfolding range_dates range_from digit_run year_run
range-shaped s =
    let a = eat_while Whitespace s 0 in
    let c = eat_while AsciiDigit s a in
    let x = eat_while (Is 0x58) s c in
    let lx = at_least (Is 0x58) s c in
    by-test (Shaped s) _ (λ _. refused) λ _.
    by-test (Shaped s) _ (λ _. refused) λ _.
    by-test (Shaped s) (eqb (x - c) (4 - (c - a)))
    (λ t. on_value_lem (parse 9999 (part s a c)) λ y e.
    by-test (Shaped s) (eqb (c - a) 4)
    (λ f.
    let g = eqb-true (c - a) 4 f in
    let k : c ≡ x = omega (arith, g, lx, eqb-true (x - c) (4 - (c - a)) t) in
    behind-year s y (eaten-run Whitespace s 0) x
    (cut s 0 a (at_least Whitespace s 0)
    ∙ ap (λ (r : List ℕ). part s 0 a ++ r)
    (cut s a c (at_least AsciiDigit s a) ∙ ap (λ (r : List ℕ). r ++ drop c s) (four_digits y (eaten-run AsciiDigit s a) (eaten-long AsciiDigit s a ∙ g) e)
    ∙ ap (λ (j : ℕ). bytes (four y) ++ drop j s) k)))
    (λ _. years-shaped y _))
    (λ _. refused)

-- ---- a Date

-- what a day-XX range was read from
abbrev FromDays : List ℕ → DateValue → Type 0
FromDays s v = ShortMonthRange v → (y : ℕ) × (m : ℕ) × DaysText s y m × (v ≡ days_upto y m 30)

undated : {v : DateValue} → AllDated v → ShortMonthRange v → ⊥
undated w (days_xx y m h l n) = omega (arith, w.1.parts_in.1)

day_there : Option Day → ℕ
day_there None = 0
day_there (Some d) = 1

start_day : DateValue → ℕ
start_day (At a) = 0
start_day (After a) = 0
start_day (Before a) = 0
start_day (Between a b) = day_there a.day

has-day : {v : DateValue} {a b : Datetime} → v ≡ Between a b → a.day ≡ None → ShortMonthRange v → ⊥
unfolding start_day day_there
has-day e n (days_xx y m h l k) = let z : ◌≡◌ {A = ℕ} 1 0 = ap start_day e ∙ ap day_there n in omega arith

shaped-days : {s : List ℕ} {r : Result (Datetime × Datetime) TextRefusal} (span : FileSpan) → Shaped s r → Holds (FromDays s) (x_range span r)
unfolding x_range
shaped-days span (of_days {y} {m} t) = holds (λ _. (y, m, t, refl))
shaped-days span (of_others n) = holds (λ k. absurd (has-day refl n k))
shaped-days span refused = fails

value-days : (span : FileSpan) (s : List ℕ) → Holds (FromDays s) (value span s)
value-days span s = of-x span s (FromDays s) (shaped-days span (range-shaped s)) (λ v w k. absurd (undated w k))

-- the exception arises from such texts alone: what is left of the upper case when white space at its end and a mark are taken off
pub from-days : (b table : List ℕ) {d : Date} → parsed b table ≡ Ok d → ShortMonthRange d.value → (y : ℕ) × (m : ℕ) × DaysText (unmarked (trimmed (uppercase (formatted b table)))) y m × (d.value ≡ days_upto y m 30)
from-days b table e k = of-accepted {P = FromDays (unmarked (trimmed (uppercase (formatted b table))))} b table (λ span. value-days span _) e k
