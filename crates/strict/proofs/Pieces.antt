-- The pieces of a text, digits and fields, read and taken apart: what is written is read, and what is read was written so. Assumes nothing.
use mathlib.Core.Path.{◌≡◌, refl, sym, ap, ◌∙◌, subst}
use Prim.Native.Nat.{ℕ, ◌+◌, ◌-◌, ◌*◌, ◌/◌, ◌%◌, ◌≤◌, ◌<◌}
use native.Mathlib.Omega.{arith}
use mathlib.Core.Bool.{true, false, false≢true, ◌&&◌}
use mathlib.Core.List.{List, [], ◌∷◌, ◌++◌}
use lib.Dec.{leb}
use lib.ListN.{get_or, drop}
use lib.Seq.{drop-drop}
use borrow.Author.Tests.{le-leb, leb-true, eq-eqb, eqb-true}
use Rattle.chars.specs.Pick.{pick}
use Rattle.chars.specs.Classes.{is_ascii_digit, within}
use Rattle.chars.proofs.Cases.{by-test, and-true}
use Rattle.std.specs.Prelude.{Option, Some, None}
use Rattle.strict.specs.Digits.{digits}
use Rattle.strict.specs.Grammar.{Field}
use Rattle.strict.specs.Grammar
use Rattle.strict.specs.Matcher.{two, on, on_four, four, counted, field, is}
use Rattle.strict.proofs.Digits.{digit}
use Rattle.strict.proofs.Places.{From, Split, first, further}

-- ---- what is written is read

-- a written digit is a digit
pub written : (n : ℕ) → is_ascii_digit (48 + n % 10) ≡ true
unfolding is_ascii_digit within
written n = rw (le-leb 48 (48 + n % 10) (omega arith), le-leb (48 + n % 10) 57 (omega arith))

pub pair : (a b : ℕ) (r : List ℕ) → two ((48 + a % 10) ∷ (48 + b % 10) ∷ r) ≡ Some (a % 10 * 10 + b % 10)
unfolding two pick
pair a b r = rw (written a, written b) (ap Some (omega arith))

pub two_back : (n : ℕ) (r : List ℕ) → n < 100 → two (digits 2 n ++ r) ≡ Some n
two_back n r h = pair (n / 10) n r ∙ ap Some (omega arith)

pub four-back : (n : ℕ) (r : List ℕ) → n < 10000 → four (digits 4 n ++ r) ≡ Some n
unfolding four on
four-back n r h =
    rw (pair (n / 10 / 10 / 10) (n / 10 / 10) ((48 + n / 10 % 10) ∷ (48 + n % 10) ∷ r), pair (n / 10) n r)
    (ap Some (omega arith))

-- a field at the front of what follows
pub field_back : {c low high n : ℕ} {t : List ℕ} → Field c low high t n → high < 100 → (r : List ℕ) → field c low high (t ++ r) ≡ Some n
unfolding field counted on pick
field_back {c} {low} {high} (Grammar.field n h) top r =
    rw (eq-eqb c c refl, two_back (low + n) r (omega arith), le-leb low (low + n) (omega arith), le-leb (low + n) high h)
    (ap Some (omega arith))

module _ {c low high n at : ℕ} {s t : List ℕ} (d : Field c low high t n) (r : List ℕ) (f : From s at (t ++ r)) where
  pub field_at : high < 100 → field c low high (drop at s) ≡ Some n
  field_at top = ap (field c low high) f.is ∙ field_back d top r

  -- the byte at its place
  pub field-first : get_or s at 0 ≡ c
  field-first = first f ∙ go d
    where
      go : {t : List ℕ} → Field c low high t n → get_or (t ++ r) 0 0 ≡ c
      go (Grammar.field n h) = refl

  -- what follows it
  pub field-behind : From s (at + 3) r
  field-behind = record { is = (further f 3).is ∙ go d }
    where
      go : {t : List ℕ} → Field c low high t n → drop 3 (t ++ r) ≡ r
      go (Grammar.field n h) = refl

-- another byte stands at the front
pub no_field : (c low high : ℕ) {s r : List ℕ} {at : ℕ} → From s at r → is c r 0 ≡ false → field c low high (drop at s) ≡ None
unfolding field pick
no_field c low high f e = rw (f.is, e)

-- ---- what is read was written so

-- a number of two digits goes on or does not
pub by_two : {A : Type 0} (Q : A → Type 0) (o : Option ℕ) {none : A} {go : ℕ → A} → Q none → ((n : ℕ) → o ≡ Some n → Q (go n)) → Q (on o none go)
unfolding on
by_two Q None p f = p
by_two Q (Some n) p f = f n refl

pub by-four : {A : Type 0} (Q : A → Type 0) (o : Option ℕ) {none : A} {go : ℕ → A} → Q none → ((n : ℕ) → o ≡ Some n → Q (go n)) → Q (on_four o none go)
unfolding on_four
by-four Q None p f = p
by-four Q (Some n) p f = f n refl

-- what two digits say, and what is left
data Two (l : List ℕ) : Option ℕ → Type 0 where
  no_two : Two l None
  some_two : {n : ℕ} → n < 100 → Split l (digits 2 n) (drop 2 l) → Two l (Some n)

cons2 : {a b c d : ℕ} (r : List ℕ) → a ≡ c → b ≡ d → ◌≡◌ {A = List ℕ} (a ∷ b ∷ r) (c ∷ d ∷ r)
cons2 r e f = cc

two-taken : (l : List ℕ) → Two l (two l)
unfolding two is_ascii_digit within
two-taken [] = by-test (Two []) false (λ e. absurd (false≢true e)) (λ e. no_two)
two-taken (a ∷ []) = by-test (Two (a ∷ [])) (is_ascii_digit a && false) (λ e. absurd (false≢true (and-true (is_ascii_digit a) false e).1)) (λ e. no_two)
two-taken (a ∷ b ∷ r) =
    by-test (Two (a ∷ b ∷ r)) (is_ascii_digit a && is_ascii_digit b)
    (λ e.
    let p = and-true (is_ascii_digit a) (is_ascii_digit b) e in
    let h = digit a p.0 in
    let k = digit b p.1 in
    some_two {n = (a - 48) * 10 + (b - 48)} (omega arith) (record { is = cons2 r (omega arith) (omega arith) }))
    (λ e. no_two)

pub two-inv : (l : List ℕ) {n : ℕ} → two l ≡ Some n → (n < 100) × Split l (digits 2 n) (drop 2 l)
two-inv l {n} e = go (subst (Two l) e (two-taken l))
  where
    go : {n : ℕ} → Two l (Some n) → (n < 100) × Split l (digits 2 n) (drop 2 l)
    go (some_two h f) = (h, f)

cons4 : {a b c d p q x y : ℕ} (r : List ℕ) → a ≡ p → b ≡ q → c ≡ x → d ≡ y → ◌≡◌ {A = List ℕ} (a ∷ b ∷ c ∷ d ∷ r) (p ∷ q ∷ x ∷ y ∷ r)
cons4 r e f g h = cc

four_digits : (a b : ℕ) (r : List ℕ) → a < 100 → b < 100 → digits 2 a ++ (digits 2 b ++ r) ≡ digits 4 (a * 100 + b) ++ r
four_digits a b r h k = cons4 r (omega arith) (omega arith) (omega arith) (omega arith)

-- what four digits say, and what is left
data Four (l : List ℕ) : Option ℕ → Type 0 where
  no_four : Four l None
  some_four : {n : ℕ} → n < 10000 → Split l (digits 4 n) (drop 4 l) → Four l (Some n)

four-taken : (l : List ℕ) → Four l (four l)
unfolding four
four-taken l =
    by_two (Four l) (two l) no_four λ a e.
    by_two (Four l) (two (drop 2 l)) no_four λ b f.
    let p = two-inv l e in
    let q = two-inv (drop 2 l) f in
    some_four {n = a * 100 + b} (omega (arith, p.0, q.0))
    (record {
      is =
          p.1.is
          ∙ ap (λ (r : List ℕ). digits 2 a ++ r) (q.1.is ∙ ap (λ (r : List ℕ). digits 2 b ++ r) (drop-drop 2 2 l))
          ∙ four_digits a b (drop 4 l) p.0 q.0;
    })

-- a derivation of what was taken, and what is left
pub record Taken (D : List ℕ → Type 0) (l r : List ℕ) : Type 0 where
  pub text : List ℕ
  pub derived : D text
  pub split : Split l text r

pub four-inv : (l : List ℕ) {n : ℕ} → four l ≡ Some n → (n < 10000) × Split l (digits 4 n) (drop 4 l)
four-inv l {n} e = go (subst (Four l) e (four-taken l))
  where
    go : {n : ℕ} → Four l (Some n) → (n < 10000) × Split l (digits 4 n) (drop 4 l)
    go (some_four h f) = (h, f)

-- what a field says, and what is left
data FieldTaken (c low high : ℕ) (l : List ℕ) : Option ℕ → Type 0 where
  no_field_taken : FieldTaken c low high l None
  some_field : {n : ℕ} {t : List ℕ} → Field c low high t n → Split l t (drop 3 l) → FieldTaken c low high l (Some n)

module _ (c low high : ℕ) where
  field-some : (l : List ℕ) (v : ℕ) → is c l 0 ≡ true → two (drop 1 l) ≡ Some v → low ≤ v → v ≤ high → FieldTaken c low high l (Some (v - low))
  unfolding two pick is_ascii_digit within
  field-some [] v e f lo hi = absurd (let h : ◌≡◌ {A = ℕ} 0 1 = cc in omega arith)
  field-some (a ∷ l) v e f lo hi =
      let p = two-inv l f in
      let back : low + (v - low) ≡ v = omega arith in
      some_field (Grammar.field (v - low) (omega arith))
      (record { is = ap {B = List ℕ} (λ (x : ℕ). x ∷ l) (eqb-true a c e) ∙ ap {B = List ℕ} (λ (r : List ℕ). c ∷ r) p.1.is ∙ ap {B = List ℕ} (λ (n : ℕ). c ∷ (digits 2 n ++ drop 2 l)) (sym back) })

  field-taken : (l : List ℕ) → FieldTaken c low high l (field c low high l)
  unfolding field counted
  field-taken l =
      by-test (FieldTaken c low high l) (is c l 0)
      (λ e.
      by_two (FieldTaken c low high l) (two (drop 1 l)) no_field_taken λ v f.
      by-test (FieldTaken c low high l) (leb low v && leb v high)
      (λ g.
      let p = and-true (leb low v) (leb v high) g in
      field-some l v e f (leb-true low v p.0) (leb-true v high p.1))
      (λ _. no_field_taken))
      (λ _. no_field_taken)

  -- at a place
  pub field-inv : (s : List ℕ) (at : ℕ) {n : ℕ} → field c low high (drop at s) ≡ Some n → Taken (λ t. Field c low high t n) (drop at s) (drop (at + 3) s)
  field-inv s at {n} e = go (subst (FieldTaken c low high (drop at s)) e (field-taken (drop at s)))
    where
      go : {n : ℕ} → FieldTaken c low high (drop at s) (Some n) → Taken (λ t. Field c low high t n) (drop at s) (drop (at + 3) s)
      go (some_field {t = t} d f) = record { text = t; derived = d; split = record { is = f.is ∙ ap (λ (r : List ℕ). t ++ r) (drop-drop 3 at s) } }

  -- a number that was read is in its range
  pub field-within : (s : List ℕ) {n : ℕ} → field c low high s ≡ Some n → low + n ≤ high
  field-within s e = go (field-inv s 0 e).derived
    where
      go : {t : List ℕ} {n : ℕ} → Field c low high t n → low + n ≤ high
      go (Grammar.field n h) = h
