-- What is said at once of a text with spaces at its end is what the ported reader says of it: it reads the text without them.
-- Assumes nothing.
use mathlib.Core.Path.{◌≡◌, refl, sym, ap, subst, ◌∙◌}
use mathlib.Core.Bool.{Bool, true, false, ◌&&◌}
use mathlib.Core.List.{List, [], ◌∷◌}
use Prim.Native.Nat.{ℕ, ◌+◌, ◌≤◌, ◌<◌}
use native.Mathlib.Nat.{add-zero}
use native.Mathlib.Omega.{arith}
use borrow.Author.Tests.{eqb-true, leb-true, lt-ltb, ne_eqb}
use lib.Dec.{eqb, leb, lit<, lit≤}
use lib.ListN.{length, take}
use Rattle.chars.specs.Classes.{is_whitespace}
use Rattle.chars.proofs.Cases.{by-test, and-true}
use Rattle.chars.proofs.Laws.{past_end}
use Rattle.scanner.specs.declared.Class.TheVariants.{Whitespace}
use Rattle.scanner.specs.Class.{in_class}
use Rattle.scanner.specs.Scan.{eat_while}
use Rattle.scanner.proofs.Laws.{not_white}
use Rattle.scanner.proofs.Blanks.{space-white}
use Rattle.scanner.proofs.Front.{From, from_start, front_rest, front-go, front-stop, front-char, front-end, front-past}
use Rattle.refusals.specs.declared.FileSpan.{FileSpan}
use Rattle.dates.specs.declared.Date.{Date}
use Rattle.refusals.specs.declared.Refusal.{Refusal}
use Rattle.std.specs.Prelude.{Result, Option, Some}
use Rattle.chunks.specs.Chunks.{chunks_of, span_of}
use Rattle.chunks.specs.Format.{is_break}
use Rattle.chunks.specs.Plain.{all_ascii, plain_byte, plain_text}
use Rattle.chunks.proofs.Plains.{other-out}
use Rattle.numbers.specs.Trim.{step_by, step_over, trim_step, trim_from, trim_end}
use Rattle.numbers.proofs.Trims.{trim-stop, trim-go}
use Rattle.datefield.specs.Text.{trimmed}
use Rattle.datefield.specs.Value.{trimmed_date, parse_text}
use Rattle.reading_laws.specs.Field.{parsed}
use Rattle.reading_laws.proofs.Entries.{parsed-clean}
use Rattle.codes.specs.Texts.{written, are_spaces, unspaced}
use Rattle.codes.specs.Lists.{one_normal}
use Rattle.codes.specs.Spaced.{list_spaced, list_usual}
use Rattle.codes.specs.Typed.{Typed}
use Rattle.roundtrip_laws.proofs.Bytes.{Each, none, more, each_of, IsClear, Clear, low_same, clear-trimmed}
use Rattle.code_laws.proofs.Lists.{plain-list}
use Rattle.code_laws.proofs.Written.{text-parsed, written-clear, written-typed, written-parsed, list-typed}

-- a text, and what is left of it: spaces alone are behind that
data Cut : List ℕ → List ℕ → Type 0 where
  spaces : {b : List ℕ} → are_spaces b ≡ true → Cut b []
  byte : {x : ℕ} {b t : List ℕ} → Cut b t → Cut (x ∷ b) (x ∷ t)

cut : (b : List ℕ) → Cut b (unspaced b)
unfolding are_spaces unspaced
cut [] = spaces refl
cut (x ∷ b) = by-test (Cut (x ∷ b)) (are_spaces (x ∷ b)) (λ h. spaces h) (λ _. byte (cut b))

cut-front : {b t : List ℕ} → Cut b t → take (length t) b ≡ t
cut-front (spaces h) = refl
cut-front (byte {x} c) = ap (λ (l : List ℕ). x ∷ l) (cut-front c)

module _ (x : ℕ) (b : List ℕ) (e : are_spaces (x ∷ b) ≡ true) where
  first-space : x ≡ 0x20
  unfolding are_spaces
  first-space = eqb-true x 0x20 (and-true (eqb x 0x20) (are_spaces b) e).0

  rest-spaces : are_spaces b ≡ true
  unfolding are_spaces
  rest-spaces = (and-true (eqb x 0x20) (are_spaces b) e).1

-- ---- the bytes

-- what holds of a space and of each byte that is left holds of each byte
module _ {P : ℕ → Type 0} (p : P 0x20) where
  each-space : (b : List ℕ) → are_spaces b ≡ true → Each P b
  each-space [] e = none
  each-space (x ∷ b) e = more (subst P (sym (first-space x b e)) p) (each-space b (rest-spaces x b e))

  cut-each : {b t : List ℕ} → Cut b t → Each P t → Each P b
  cut-each (spaces {b} h) e = each-space b h
  cut-each (byte c) (more q e) = more q (cut-each c e)

-- ASCII characters from the space on that have no upper case
record Printed (x : ℕ) : Type 0 where
  low : 0x20 ≤ x
  high : x < 0x80
  own : plain_byte true x ≡ x

space-printed : Printed 0x20
space-printed = record { low = lit≤ tt; high = lit< tt; own = low_same 0x20 (lit< tt) }

clear-printed : (x : ℕ) → IsClear x → Printed x
clear-printed x p = record { low = omega (arith, p.low); high = p.high; own = p.own }

no-break : (x : ℕ) → 0x20 ≤ x → is_break x ≡ false
unfolding is_break
no-break x h = rw (ne_eqb x 0x0A (λ (e : x ≡ 0x0A). omega arith), ne_eqb x 0x0D (λ (e : x ≡ 0x0D). omega arith))

printed-text : (w : Bool) {l : List ℕ} → Each Printed l → plain_text true w l ≡ l
unfolding plain_text
printed-text w none = refl
printed-text w (more {x} p l) = rw (other-out true w x (no-break x p.low), p.own, printed-text (is_whitespace x) l)

printed-ascii : {l : List ℕ} → Each Printed l → all_ascii l ≡ true
unfolding all_ascii
printed-ascii none = refl
printed-ascii (more {x} p l) = rw (lt-ltb x 0x80 p.high, printed-ascii l)

-- ---- the white space at the end

spaces-eaten : (u : List ℕ) {s : List ℕ} {i : ℕ} → are_spaces u ≡ true → From s i u → length s ≤ eat_while Whitespace s i
spaces-eaten [] e f = rw (front-end f Whitespace) (front-past f)
spaces-eaten (x ∷ u) e f =
    let b = first-space x u e in
    rw (front-go f Whitespace (omega (arith, b)) (ap (in_class Whitespace) b ∙ space-white)) (spaces-eaten u (rest-spaces x u e) (front_rest f))

-- no character is left
spaces-step : (u : List ℕ) {s : List ℕ} {i : ℕ} → are_spaces u ≡ true → From s i u → trim_step s i ≡ 0
unfolding trim_step step_over step_by
spaces-step u {s} {i} e f = rw (past_end s (eat_while Whitespace s i) (spaces-eaten u e f))

clear_step : {s t : List ℕ} {i x : ℕ} → IsClear x → From s i (x ∷ t) → trim_step s i ≡ 1
unfolding trim_step step_over step_by
clear_step {i = i} {x = x} p f = rw (front-stop f Whitespace p.high (not_white x p.low p.high), front-char f p.high) (omega arith)

cut-from : {u t s : List ℕ} {i : ℕ} → Cut u t → Clear t → From s i u → trim_from s i ≡ i + length t
cut-from {u} {s = s} {i = i} (spaces h) none f = trim-stop s i (spaces-step u h f) ∙ sym (add-zero i)
cut-from {s = s} {i = i} (byte c) (more p l) f =
    let e = clear_step p f in
    trim-go s i (omega arith) ∙ ap (λ (n : ℕ). trim_from s (i + n)) e ∙ cut-from c l (front_rest f) ∙ omega arith

cut-end : {b t : List ℕ} → Cut b t → Clear t → trim_end b ≡ length t
unfolding trim_end
cut-end {b} k c = cut-from k c (from_start b) ∙ omega arith

-- the spaces are trimmed, and nothing else
cut-trimmed : {b t : List ℕ} → Cut b t → Clear t → trimmed b ≡ t
unfolding trimmed
cut-trimmed k c = rw (cut-end k c) (cut-front k)

cut-parsed : (span : FileSpan) {b t : List ℕ} → Cut b t → Clear t → parse_text span b ≡ parse_text span t
unfolding parse_text
cut-parsed span k c = ap (trimmed_date span) (cut-trimmed k c ∙ sym (clear-trimmed c))

-- ---- the list

module _ (b table : List ℕ) {r : Result Date Refusal} where
  -- what is said of a list is said of its bytes without the spaces
  of-spaced : {A : Type 0} → (one_normal b table ≡ true → length b ≤ 4096 → written (unspaced b) ≡ Some r → A) → list_spaced b table ≡ Some r → A
  unfolding list_spaced
  of-spaced {A} f =
      by-test (λ (a : Option (Result Date Refusal)). a ≡ Some r → A) (one_normal b table && leb (length b) 4096)
      (λ t. let p = and-true (one_normal b table) _ t in f p.0 (leb-true (length b) 4096 p.1))
      (λ _ e. let z : ◌≡◌ {A = ℕ} 0 1 = cc in absurd (omega arith))

  -- what is said at once of a list with spaces at its end is what the ported reader says,
  pub spaced-parsed : list_spaced b table ≡ Some r → parsed b table ≡ r
  spaced-parsed =
      of-spaced λ o h e.
      let c = written-clear (unspaced b) e in
      let p = cut-each space-printed (cut b) (each_of clear-printed c) in
      let l = plain-list b table o h (printed-ascii p) in
      let span = span_of (chunks_of table) in
      sym (parsed-clean b table l.clean (sym (l.text true ∙ printed-text false p)))
      ∙ cut-parsed span (cut b) c
      ∙ text-parsed (unspaced b) e span

  -- and its numbers are of their types
  pub spaced-typed : list_spaced b table ≡ Some r → Typed r
  spaced-typed = of-spaced λ o h e. written-typed (unspaced b) e

  -- the same of either list
  pub usual-parsed : list_usual b table ≡ Some r → parsed b table ≡ r
  unfolding list_usual
  usual-parsed =
      by-test (λ (a : Option (Result Date Refusal)). a ≡ Some r → parsed b table ≡ r) (one_normal b table) (λ _. spaced-parsed) (λ _ e. written-parsed b table e)

  pub usual-typed : list_usual b table ≡ Some r → Typed r
  unfolding list_usual
  usual-typed = by-test (λ (a : Option (Result Date Refusal)). a ≡ Some r → Typed r) (one_normal b table) (λ _. spaced-typed) (λ _ e. list-typed b table e)
