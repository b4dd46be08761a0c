-- Ranges by X: a point is none of them, what is read is derived, and what is derived is read. Assumes nothing.
use mathlib.Core.Path.{◌≡◌, refl, ap, ◌∙◌}
use Prim.Native.Nat.{ℕ, ◌+◌, ◌-◌, ◌*◌, ◌/◌, ◌%◌, ◌<◌}
use native.Mathlib.Omega.{arith}
use mathlib.Core.Bool.{Bool, true, false, ◌&&◌}
use mathlib.Core.List.{List, [], ◌∷◌, ◌++◌, append_assoc}
use lib.IntN.{ℤ}
use lib.ListN.{get_or, drop}
use lib.Dec.{lit<}
use lib.Seq.{drop-drop}
use borrow.Author.Tests.{ne_eqb, eqb-true}
use Rattle.chars.proofs.Cases.{by-test, and-true}
use Rattle.chars.specs.Pick.{pick}
use Rattle.chars.specs.Classes.{is_ascii_digit, within}
use Rattle.dates.specs.declared.Day.{Day}
use Rattle.dates.specs.declared.Month.{Month}
use Rattle.dates.specs.declared.Time.{Time}
use Rattle.std.specs.Prelude.{Option, Some, None}
use Rattle.dates.specs.declared.Datetime.{Datetime}
use Rattle.dates.specs.declared.DateValue.{DateValue}
use Rattle.strict.specs.Digits.{digits}
use Rattle.strict.specs.Grammar.{Field, dddd, -dddd, InMonth, no_day, -dd, InYear, no_month, -mm, Point, Unknown, dd_xx, ddd_x, dddd_XX, dddd_XX_XX, dddd_mm_XX}
use Rattle.strict.specs.Grammar
use Rattle.strict.specs.Matcher.{is, two, four, field, on, on_four, dash_xx, years, months, days, unknown_years, unknown_parts, unknown}
use Rattle.strict.proofs.Places.{Split, joined, one-taken}
use Rattle.strict.proofs.Digits.{Digit, digit}
use Rattle.strict.proofs.Points.{Ends, Before}
use Rattle.strict.proofs.Pieces.{by_two, by-four, two-inv, four-inv, field-inv, written, two_back, pair, four-back, field_back, no_field}

-- ---- no -XX

no-xx : (l : List ℕ) → is 45 l 0 ≡ false → dash_xx l ≡ false
unfolding dash_xx
no-xx l h = rw h

pub field-xx : {low high n : ℕ} {t : List ℕ} → Field 45 low high t n → (l : List ℕ) → dash_xx (t ++ l) ≡ false
unfolding dash_xx
field-xx {low} (Grammar.field n h) l = rw (ne_eqb (48 + (low + n) / 10 % 10) 88 (λ e. omega arith))

no-field-here : (c low high : ℕ) (l : List ℕ) → is c l 0 ≡ false → field c low high l ≡ None
no-field-here c low high l e = no_field c low high {s = l} {at = 0} (record { is = refl }) e

-- ---- a point is no range by X

-- a text that starts with no digit is none
pub no_digit : (s : List ℕ) → is_ascii_digit (get_or s 0 0) ≡ false → unknown s ≡ None
unfolding unknown four two on on_four pick
no_digit s h = go (is 88 s 3)
  where
    go : (t : Bool) → pick t (on (two s) None λ n. unknown_years s n) (on_four (four s) None λ n. unknown_parts s n) ≡ None
    go true = rw h
    go false = rw h

module _ {r : List ℕ} (e : Ends r) {y : ℤ} where
  behind-month : {m : ℕ} {t : List ℕ} {d : Option Day} {c : Option Time} → InMonth y m t d c → dash_xx (t ++ r) ≡ false
  behind-month no_day = no-xx r e.dash
  behind-month (-dd {s = a} {t = b} d c) = rw (append_assoc a b r) (field-xx d (b ++ r))

  behind-year : (n : ℕ) {t : List ℕ} {m : Option Month} {d : Option Day} {c : Option Time} → InYear y t m d c → unknown_parts (digits 4 n ++ (t ++ r)) n ≡ None
  unfolding unknown_parts on pick
  behind-year n no_month = rw (no-xx r e.dash, no-field-here 45 1 12 r e.dash)
  behind-year n (-mm {t = b} (Grammar.field m h) d) =
      rw (field-xx {low = 1} (Grammar.field m h) (b ++ r), field_back {c = 45} {low = 1} (Grammar.field m h) (omega arith) (b ++ r), behind-month d)

pub point-known : {s t r : List ℕ} {a : Datetime} → Ends r → Point t a → Split s t r → unknown s ≡ None
unfolding unknown on_four pick is_ascii_digit within
point-known {s} {r = r} e (Grammar.point {t = t} (dddd n h) p) f =
    ap unknown f.is ∙ rw (ne_eqb (48 + n % 10) 88 (λ e. omega arith), four-back n (t ++ r) h, behind-year e n p)
point-known {s} {r = r} e (Grammar.point {t = t} (-dddd n h) p) f = no_digit s (ap (λ (l : List ℕ). is_ascii_digit (get_or l 0 0)) f.is)

pub point-closed : {s t r : List ℕ} {a : Datetime} → Point t a → Split s t r → is 46 s 0 ≡ false
point-closed {s} {r = r} (Grammar.point {t = t} (dddd n h) p) f =
    ap (λ (l : List ℕ). is 46 l 0) f.is ∙ ne_eqb (48 + n / 10 / 10 / 10 % 10) 46 (λ e. omega arith)
point-closed {s} {r = r} (Grammar.point {t = t} (-dddd n h) p) f = ap (λ (l : List ℕ). is 46 l 0) f.is

-- ---- what is read is derived

-- an answer that a derivation stands behind
pub data Ranged (s : List ℕ) : Option (DateValue × ℕ) → Type 0 where
  no_range : Ranged s None
  range : {t : List ℕ} {v : DateValue} {next : ℕ} → Unknown t v → Split s t (drop next s) → Ranged s (Some (v, next))

xx-taken : (s : List ℕ) (at : ℕ) → dash_xx (drop at s) ≡ true → Split (drop at s) (45 ∷ 88 ∷ 88 ∷ []) (drop (at + 3) s)
unfolding dash_xx
xx-taken s at e =
    let l = drop at s in
    let p = and-true (is 45 l 0) (is 88 l 1 && is 88 l 2) e in
    let q = and-true (is 88 l 1) (is 88 l 2) p.1 in
    let f = joined (one-taken l 0 (eqb-true _ 45 p.0) (lit< tt)) (joined (one-taken l 1 (eqb-true _ 88 q.0) (lit< tt)) (one-taken l 2 (eqb-true _ 88 q.1) (lit< tt))) in
    record { is = f.is ∙ ap (λ (r : List ℕ). 45 ∷ 88 ∷ 88 ∷ r) (drop-drop 3 at s) }

-- a third digit behind two
third : (n c : ℕ) (r : List ℕ) → n < 100 → Digit c → digits 2 n ++ (c ∷ r) ≡ digits 3 (n * 10 + (c - 48)) ++ r
third n c r h d = cons3 r (omega arith) (omega arith) (omega arith)
  where
    cons3 : {a b c x y z : ℕ} (r : List ℕ) → a ≡ x → b ≡ y → c ≡ z → ◌≡◌ {A = List ℕ} (a ∷ b ∷ c ∷ r) (x ∷ y ∷ z ∷ r)
    cons3 r e f g = cc

module _ (s : List ℕ) where
  years-taken : (n : ℕ) → is 88 s 3 ≡ true → two s ≡ Some n → Ranged s (unknown_years s n)
  unfolding unknown_years years
  years-taken n e f =
      let p = two-inv s f in
      let x = one-taken s 3 (eqb-true (get_or s 3 0) 88 e) (lit< tt) in
      by-test (Ranged s) (is 88 s 2)
      (λ g. range (dd_xx n p.0) (joined p.1 (joined (one-taken s 2 (eqb-true (get_or s 2 0) 88 g) (lit< tt)) x)))
      (λ _.
      by-test (Ranged s) (is_ascii_digit (get_or s 2 0))
      (λ g.
      let d = digit (get_or s 2 0) g in
      let o = joined (one-taken s 2 refl (omega arith)) x in
      range (ddd_x (n * 10 + (get_or s 2 0 - 48)) (omega (arith, p.0)))
      (record { is = p.1.is ∙ ap (λ (r : List ℕ). digits 2 n ++ r) o.is ∙ third n (get_or s 2 0) (88 ∷ drop 4 s) p.0 d }))
      (λ _. no_range))

  parts-taken : (n : ℕ) → four s ≡ Some n → Ranged s (unknown_parts s n)
  unfolding unknown_parts months days
  parts-taken n e =
      let p = four-inv s e in
      by-test (Ranged s) (dash_xx (drop 4 s))
      (λ f.
      by-test (Ranged s) (dash_xx (drop 7 s))
      (λ g. range (dddd_XX_XX n p.0) (joined p.1 (joined (xx-taken s 4 f) (xx-taken s 7 g))))
      (λ _. range (dddd_XX n p.0) (joined p.1 (xx-taken s 4 f))))
      (λ _.
      by_two (Ranged s) (field 45 1 12 (drop 4 s)) no_range λ m f.
      let q = field-inv 45 1 12 s 4 f in
      by-test (Ranged s) (dash_xx (drop 7 s))
      (λ g. range (dddd_mm_XX n p.0 q.derived) (joined p.1 (joined q.split (xx-taken s 7 g))))
      (λ _. no_range))

  pub unknown-taken : Ranged s (unknown s)
  unfolding unknown
  unknown-taken =
      by-test (Ranged s) (is 88 s 3)
      (λ e. by_two (Ranged s) (two s) no_range λ n f. years-taken n e f)
      (λ _. by-four (Ranged s) (four s) no_range λ n f. parts-taken n f)

-- ---- what is derived is read

three : (n : ℕ) → n < 1000 → (n / 10 / 10 % 10 * 10 + n / 10 % 10) * 10 + (48 + n % 10 - 48) ≡ n
three n h = omega arith

pub unknown-read : {s t r : List ℕ} {v : DateValue} → Ends r → Unknown t v → Split s t r → Before s r (λ n. unknown s ≡ Some (v, n))
unfolding unknown unknown_years unknown_parts years months days on on_four pick dash_xx
unknown-read {r = r} e (dd_xx n h) f =
    record { place = 4; left = record { is = ap (drop 4) f.is }; reads = ap unknown f.is ∙ rw (two_back n (88 ∷ 88 ∷ r) h) }
unknown-read {r = r} e (ddd_x n h) f =
    record {
      place = 4;
      left = record { is = ap (drop 4) f.is };
      reads = ap unknown f.is ∙ rw (pair (n / 10 / 10) (n / 10) ((48 + n % 10) ∷ 88 ∷ r), ne_eqb (48 + n % 10) 88 (λ e. omega arith), written n) (ap (λ (k : ℕ). years (k * 10) (k * 10 + 9)) (three n h));
    }
unknown-read {r = r} e (dddd_XX n h) f =
    record {
      place = 7;
      left = record { is = ap (drop 7) f.is };
      reads = ap unknown f.is ∙ rw (ne_eqb (48 + n % 10) 88 (λ e. omega arith), four-back n (45 ∷ 88 ∷ 88 ∷ r) h, e.dash);
    }
unknown-read {r = r} e (dddd_XX_XX n h) f =
    record {
      place = 10;
      left = record { is = ap (drop 10) f.is };
      reads = ap unknown f.is ∙ rw (ne_eqb (48 + n % 10) 88 (λ e. omega arith), four-back n (45 ∷ 88 ∷ 88 ∷ 45 ∷ 88 ∷ 88 ∷ r) h);
    }
unknown-read {r = r} e (dddd_mm_XX n h (Grammar.field m g)) f =
    record {
      place = 10;
      left = record { is = ap (drop 10) f.is };
      reads = ap unknown f.is ∙ rw (ne_eqb (48 + n % 10) 88 (λ e. omega arith), four-back n (45 ∷ (digits 2 (1 + m) ++ (45 ∷ 88 ∷ 88 ∷ r))) h, ne_eqb (48 + (1 + m) / 10 % 10) 88 (λ e. omega arith), field_back {c = 45} {low = 1} (Grammar.field m g) (omega arith) (45 ∷ 88 ∷ 88 ∷ r));
    }
