-- A text without a T gives a Date without a time, by either reader.
-- Assumes nothing.
use mathlib.Core.Path.{◌≡◌, refl, sym, ap, ◌∙◌, subst}
use mathlib.Core.List.{List, [], ◌∷◌, ◌++◌}
use Prim.Native.Nat.{ℕ, ◌+◌, ◌<◌}
use native.Mathlib.Omega.{arith}
use borrow.Author.Tests.{eqb-true}
use lib.Dec.{eqb, lit<, lit≤}
use lib.IntN.{ℤ}
use lib.ListN.{length, get_or, take, drop}
use lib.Seq.{get_or-take, get_or-drop, take-append_seam, drop-append_seam}
use Rattle.chars.specs.Pick.{pick}
use Rattle.chars.specs.Utf8.{decode_at}
use Rattle.chars.specs.declared.Decoded.{Decoded}
use Rattle.chars.specs.declared.Decoded.TheVariants.{Char, Bad, End}
use Rattle.chars.proofs.Cases.{by-test, of_test}
use Rattle.chars.proofs.Encode.{encode_one}
use Rattle.chars.proofs.Laws.{found}
use Rattle.scanner.specs.declared.Class.TheVariants.{Whitespace, Is}
use Rattle.dates.specs.declared.Day.{Day}
use Rattle.dates.specs.declared.Time.{Time}
use Rattle.scanner.specs.declared.Cursor.{Cursor}
use Rattle.std.specs.Prelude.{Option, Some, None, Result, Ok, Err}
use Rattle.scanner.specs.Class.{in_class}
use Rattle.scanner.specs.Scan.{len_in, match_len, eat_while, eat_if}
use Rattle.refusals.specs.declared.FileSpan.{FileSpan}
use Rattle.refusals.specs.declared.Refusal.{Refusal}
use Rattle.refusals.specs.declared.TextRefusal.{TextRefusal}
use Rattle.chunks.specs.Format.{formatted}
use Rattle.dates.specs.declared.Month.{Month}
use Rattle.dates.specs.declared.Datetime.{Datetime}
use Rattle.dates.specs.declared.DateValue.{DateValue}
use Rattle.dates.specs.declared.DateValue.TheVariants.{At, After, Before, Between}
use Rattle.dates.specs.declared.Date.{Date}
use Rattle.dates.specs.Value.{day}
use Rattle.points.specs.Step.{month_at, day_at, hyphen_at, on_part, on_separator, or_end}
use Rattle.points.specs.Point.{year_at, on_year, time_or, behind_day, behind_month, behind_year, point}
use Rattle.xranges.specs.Range.{range_dates}
use Rattle.xranges.specs.Accepted.{XRange, some_years, all_months, all_days}
use Rattle.xranges.proofs.Accepted.{accepted-range}
use Rattle.datefield.specs.Text.{first_of, is_open}
use Rattle.datefield.specs.Value.{moved, first_half, second_half, on_half, both_halves, halves, x_range, value}
use Rattle.strict.specs.Grammar.{Field, field, Clock, no_time, hh:mm:ss, InMonth, no_day, -dd, InYear, no_month, -mm, Value, alone, between, after, before, unknown, Unknown, dd_xx, ddd_x, dddd_XX, dddd_XX_XX, dddd_mm_XX, Text, text}
use Rattle.strict.specs.Grammar
use Rattle.reading_laws.specs.Field.{parsed, parsed_strict}
use Rattle.roundtrip_laws.specs.Domain.{Untimed}
use Rattle.roundtrip_laws.specs.Letters.{NoByte, NoT}
use Rattle.roundtrip_laws.proofs.Letters.{no_drop, no-take}
use Rattle.roundtrip_laws.proofs.Accepted.{Holds, holds, fails, of-accepted, no-letter}
use Rattle.roundtrip_laws.proofs.StrictRead.{derivation}

-- ---- the ported reader

-- the scanner finds no T
module _ (s : List ℕ) (h : NoByte 0x54 s) (a : ℕ) where
  byte-there : {k : ℕ} → decode_at s a ≡ Char 0x54 k → get_or s (a + 0) 0 ≡ 0x54
  byte-there {k} e =
      let o = found s a e in
      sym (get_or-drop a s 0 0) ∙ sym (get_or-take k (drop a s) 0 0 o.some) ∙ ap (λ (l : List ℕ). get_or l 0 0) (sym o.bytes ∙ encode_one 0x54 (lit< tt))

  len-none : (d : Decoded) → decode_at s a ≡ d → len_in (Is 0x54) d ≡ 0
  unfolding len_in in_class pick
  len-none (Char c k) e =
      of_test (eqb c 0x54) (λ t. absurd (h.none (a + 0) (byte-there (e ∙ ap (λ (x : ℕ). Char x k) (eqb-true c 0x54 t))))) (λ t. rw t)
  len-none Bad e = refl
  len-none End e = refl

  kept : eat_if (Is 0x54) s a ≡ None
  unfolding eat_if match_len pick
  kept = rw (len-none (decode_at s a) refl)

-- a point
data Plain : Result Datetime TextRefusal → Type 0 where
  plain : {d : Datetime} → d.time ≡ None → Plain (Ok d)
  refused : {e : TextRefusal} → Plain (Err e)

or-end : (s : List ℕ) (at : ℕ) {r : Result Datetime TextRefusal} {go : ℕ → Result Datetime TextRefusal} → Plain r → ((a : ℕ) → Plain (go a)) → Plain (or_end s at r go)
unfolding or_end
or-end s at w g = by-test Plain _ (λ _. w) (λ _. g (eat_while Whitespace s at))

on-separator : (r : Result Cursor TextRefusal) {go : ℕ → Result Datetime TextRefusal} → ((a : ℕ) → Plain (go a)) → Plain (on_separator Err r go)
unfolding on_separator
on-separator (Ok c) g = g c.0
on-separator (Err e) g = refused

on-part : (r : Result (ℕ × Cursor) TextRefusal) {go : ℕ → ℕ → Result Datetime TextRefusal} → ((v a : ℕ) → Plain (go v a)) → Plain (on_part Err r go)
unfolding on_part
on-part (Ok (v, c)) g = g v c.0
on-part (Err e) g = refused

on-year : (r : Result (ℤ × Cursor) TextRefusal) {go : ℤ → ℕ → Result Datetime TextRefusal} → ((y : ℤ) (a : ℕ) → Plain (go y a)) → Plain (on_year r go)
unfolding on_year
on-year (Ok (y, c)) g = g y c.0
on-year (Err e) g = refused

module _ (s : List ℕ) (h : NoByte 0x54 s) where
  day-plain : (at : ℕ) (y : ℤ) (m : Option Month) (d : Option Day) → Plain (behind_day s at y m d)
  unfolding behind_day time_or
  day-plain at y m d = or-end s at (plain refl) λ a. rw (kept s h a) refused

  month-plain : (at : ℕ) (y : ℤ) (m : Month) → Plain (behind_month s at y m)
  unfolding behind_month
  month-plain at y m =
      or-end s at (plain refl) λ a. on-separator (hyphen_at s a) λ b. on-part (day_at s b) λ d next.
      by-test Plain _ (λ _. day-plain next y (Some m) (day d)) (λ _. refused)

  point-plain : Plain (point s)
  unfolding point behind_year
  point-plain =
      on-year (year_at s 0) λ y next.
      or-end s next (plain refl) λ a. on-separator (hyphen_at s a) λ b. on-part (month_at s b) λ m n. month-plain n y (record { 0 = m })

-- a value
half-plain : {r : Result Datetime TextRefusal} (by : TextRefusal → Refusal) {go : Datetime → Result DateValue Refusal} → Plain r → ((d : Datetime) → d.time ≡ None → Holds Untimed (go d)) → Holds Untimed (on_half (moved r by) go)
unfolding on_half moved
half-plain by (plain {d} e) k = k d e
half-plain by refused k = fails

both-plain : {a b : Datetime} → XRange a b → Untimed (Between a b)
both-plain (some_years h k) = (refl, refl)
both-plain (all_months h) = (refl, refl)
both-plain (all_days h l) = (refl, refl)

range-plain : (span : FileSpan) (s : List ℕ) → Holds Untimed (x_range span (range_dates s))
unfolding x_range
range-plain span s = at (range_dates s) refl
  where
    at : (r : Result (Datetime × Datetime) TextRefusal) → range_dates s ≡ r → Holds Untimed (x_range span r)
    at (Ok (a, b)) e = holds (both-plain (accepted-range s e))
    at (Err f) e = fails

module _ (span : FileSpan) (s : List ℕ) (h : NoByte 0x54 s) where
  halves-plain : (slash : ℕ) → Holds Untimed (halves span s slash)
  unfolding halves both_halves first_half second_half
  halves-plain slash =
      let p = point-plain (take slash s) (no-take slash (lit< tt) h) in
      let q = point-plain (drop (slash + 1) s) (no_drop (slash + 1) h) in
      by-test (Holds Untimed) (is_open (take slash s))
      (λ _. by-test (Holds Untimed) (is_open (drop (slash + 1) s)) (λ _. fails) λ _. half-plain _ q λ b e. holds {v = Before b} e)
      (λ _. by-test (Holds Untimed) (is_open (drop (slash + 1) s)) (λ _. half-plain _ p λ a e. holds {v = After a} e) λ _. half-plain _ p λ a e. half-plain _ q λ b f. holds {v = Between a b} (e, f))

  value-plain : Holds Untimed (value span s)
  unfolding value
  value-plain =
      by-test (Holds Untimed) _ (λ _. range-plain span s) λ _.
      by-test (Holds Untimed) _ (λ _. halves-plain (first_of 0x2F s)) λ _. half-plain _ (point-plain s h) λ a e. holds {v = At a} e

-- what the ported reader accepts of a text with neither T nor t has no time
pub no-t : (b table : List ℕ) {d : Date} → parsed b table ≡ Ok d → NoT (formatted b table) → Untimed d.value
no-t b table e h =
    let n = no-letter 0x54 (lit≤ tt) (lit≤ tt) (λ (z : ◌≡◌ {A = ℕ} 0x54 0x53). omega arith) (formatted b table) h in
    of-accepted {P = Untimed} b table (λ span. value-plain span _ n) e

-- ---- the strict reader

no_front : {b : ℕ} (s t : List ℕ) → 0 < b → NoByte b (s ++ t) → NoByte b s
no_front {b} s t p h = subst (NoByte b) (take-append_seam s t) (no-take (length s) p h)

no-back : {b : ℕ} (s t : List ℕ) → NoByte b (s ++ t) → NoByte b t
no-back {b} s t h = subst (NoByte b) (drop-append_seam s t) (no_drop (length s) h)

field-first : {b first last n : ℕ} {s : List ℕ} → Field b first last s n → NoByte b s → ⊥
field-first (field n k) h = h.none 0 refl

clock-plain : {s : List ℕ} {c : Option Time} → Clock s c → NoByte 0x54 s → c ≡ None
clock-plain no_time h = refl
clock-plain (hh:mm:ss {s = s} {t = t} {u = u} {v = v} f m c o) h = absurd (field-first f (no_front s (t ++ (u ++ v)) (lit< tt) h))

month-strict : {y : ℤ} {m : ℕ} {s : List ℕ} {d : Option Day} {c : Option Time} → InMonth y m s d c → NoByte 0x54 s → c ≡ None
month-strict no_day h = refl
month-strict (-dd {s = s} {t = t} f c) h = clock-plain c (no-back s t h)

year-strict : {y : ℤ} {s : List ℕ} {m : Option Month} {d : Option Day} {c : Option Time} → InYear y s m d c → NoByte 0x54 s → c ≡ None
year-strict no_month h = refl
year-strict (-mm {s = s} {t = t} f r) h = month-strict r (no-back s t h)

point-strict : {s : List ℕ} {a : Datetime} → Grammar.Point s a → NoByte 0x54 s → a.time ≡ None
point-strict (Grammar.point {s = s} {t = t} y r) h = year-strict r (no-back s t h)

unknown-strict : {s : List ℕ} {v : DateValue} → Unknown s v → Untimed v
unknown-strict (dd_xx n h) = (refl, refl)
unknown-strict (ddd_x n h) = (refl, refl)
unknown-strict (dddd_XX n h) = (refl, refl)
unknown-strict (dddd_XX_XX n h) = (refl, refl)
unknown-strict (dddd_mm_XX n h f) = (refl, refl)

value-strict : {s : List ℕ} {v : DateValue} → Value Grammar.Point s v → NoByte 0x54 s → Untimed v
value-strict (alone p) h = point-strict p h
value-strict (between {s = s} {t = t} p q) h = (point-strict p (no_front s (47 ∷ t) (lit< tt) h), point-strict q (no-back (47 ∷ []) t (no-back s (47 ∷ t) h)))
value-strict (after {s = s} p) h = point-strict p (no_front s (47 ∷ 46 ∷ 46 ∷ []) (lit< tt) h)
value-strict (before {s = s} p) h = point-strict p (no-back (46 ∷ 46 ∷ 47 ∷ []) s h)
value-strict (unknown x) h = unknown-strict x

text-strict : {s : List ℕ} {d : Date} → Text s d → NoByte 0x54 s → Untimed d.value
text-strict (text {s = s} {t = t} v m) h = value-strict v (no_front s t (lit< tt) h)

-- what the strict reader accepts of a text without a T has no time
pub strict-no-t : (b table : List ℕ) {d : Date} → parsed_strict b table ≡ Ok d → NoByte 0x54 (formatted b table) → Untimed d.value
strict-no-t b table e h = text-strict (derivation b table e) h
