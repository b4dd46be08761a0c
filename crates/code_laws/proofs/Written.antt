-- What is said at once of a usual text is what both readers say of it: always a Date, and without a time the text is the written one of that
-- Date.
-- Assumes nothing.
use mathlib.Core.Path.{◌≡◌, refl, sym, ◌∙◌}
use mathlib.Core.Bool.{Bool, true, false, ◌||◌}
use mathlib.Core.List.{List}
use Prim.Native.Nat.{ℕ, ◌≤◌}
use native.Mathlib.Omega.{arith}
use lib.ListN.{length, length-append}
use Rattle.chars.proofs.Cases.{by-test, of_test}
use Rattle.refusals.specs.declared.FileSpan.{FileSpan}
use Rattle.dates.specs.declared.Time.{Time}
use Rattle.refusals.specs.declared.Refusal.{Refusal}
use Rattle.std.specs.Prelude.{Some, None, Result, Ok, Option}
use Rattle.chunks.specs.Chunks.{chunks_of, span_of}
use Rattle.chunks.specs.Check.{checked}
use Rattle.chunks.specs.Answer.{text_of}
use Rattle.dates.specs.declared.Datetime.{Datetime}
use Rattle.dates.specs.declared.DateValue.{DateValue}
use Rattle.dates.specs.declared.DateValue.TheVariants.{At, After, Before, Between}
use Rattle.dates.specs.declared.Date.{Date}
use Rattle.writer.specs.Texts.{panics, date_text}
use Rattle.datefield.specs.Value.{parse_text}
use Rattle.strict.specs.Grammar.{Text, text}
use Rattle.strict.specs.Matcher.{strict}
use Rattle.strict.proofs.Exact.{exact}
use Rattle.reading_laws.specs.Field.{parsed, strictly, parsed_strict}
use Rattle.reading_laws.proofs.Entries.{parsed-clean, strict-clean}
use Rattle.codes.specs.Texts.{written}
use Rattle.codes.specs.Lists.{one_normal, is_joined, list_written}
use Rattle.codes.specs.Typed.{Typed}
use Rattle.codes.specs.Words.{flag, time_word, value_words, words_of}
use Rattle.roundtrip_laws.specs.Domain.{InDomain, Untimed}
use Rattle.roundtrip_laws.proofs.Agrees.{value-text}
use Rattle.roundtrip_laws.proofs.Bytes.{Clear, clear-text, clear-ascii}
use Rattle.roundtrip_laws.proofs.Trims.{text-clear, mark-short}
use Rattle.code_laws.proofs.Lists.{plain-list}
use Rattle.code_laws.proofs.Joined.{joined-clean, joined-text}
use Rattle.code_laws.proofs.Texts.{Ranged, TextSaid, Answer, answer, said}

-- ---- the text

-- of the text itself the ported reader says the same, from any place of a file
pub text-parsed : (s : List ℕ) {r : Result Date Refusal} → written s ≡ Some r → (span : FileSpan) → parse_text span s ≡ r
text-parsed s e span = go (said e)
  where
    go : {r : Result Date Refusal} → Answer s r → parse_text span s ≡ r
    go (answer t) = t.ported span

-- and so does the strict grammar
pub text-strict : (s : List ℕ) {r : Result Date Refusal} → written s ≡ Some r → strictly (strict s) ≡ r
unfolding strictly
text-strict s e = go (said e)
  where
    go : {r : Result Date Refusal} → Answer s r → strictly (strict s) ≡ r
    go (answer {d} t) = rw ((exact s d).1 t.by_grammar)

-- no text is refused at once
pub written-accepted : (s : List ℕ) {r : Result Date Refusal} → written s ≡ Some r → (d : Date) × (r ≡ Ok d)
written-accepted s e = go (said e)
  where
    go : {r : Result Date Refusal} → Answer s r → (d : Date) × (r ≡ Ok d)
    go (answer {d} t) = (d, refl)

-- the numbers that are said are of their types
pub written-typed : (s : List ℕ) {r : Result Date Refusal} → written s ≡ Some r → Typed r
written-typed s e = go (said e)
  where
    go : {r : Result Date Refusal} → Answer s r → Typed r
    go (answer t) = t.typed

-- ---- the Date that is said

date-said : {s : List ℕ} {d : Date} → written s ≡ Some (Ok d) → TextSaid s d
date-said {s} e = go (said e)
  where
    go : {d : Date} → Answer s (Ok d) → TextSaid s d
    go (answer t) = t

module _ (s : List ℕ) {d : Date} (e : written s ≡ Some (Ok d)) where
  -- the Rust does not panic in writing it
  pub written-calm : panics d ≡ false
  written-calm = (date-said e).calm

  -- without a time it is of the domain,
  pub written_in : Untimed d.value → InDomain d.value
  written_in n = ((date-said e).back n).0

  -- and its written text is the text itself
  pub written_back : Untimed d.value → date_text d ≡ s
  written_back n = ((date-said e).back n).1

-- ---- the list

-- a text of the grammar is printing ASCII, and short
record Usual (b : List ℕ) : Type 0 where
  clear : Clear b
  short : length b ≤ 54

usual : {b : List ℕ} {d : Date} → Text b d → Usual b
usual (text {s} {t} v m) =
    let k = value-text v in
    let l = length-append s t in
    let h = mark-short m in
    record { clear = text-clear k m; short = omega (arith, k.short) }

answer-usual : {s : List ℕ} {r : Result Date Refusal} → Answer s r → Usual s
answer-usual (answer t) = usual t.by_grammar

-- each of its bytes is a printing ASCII character
pub written-clear : (s : List ℕ) {r : Result Date Refusal} → written s ≡ Some r → Clear s
written-clear s e = (answer-usual (said e)).clear

-- a list has no fault, and its text is its bytes, in upper case and as it is
record AsBytes (b table : List ℕ) : Type 0 where
  clean : checked b table ≡ (Ok tt)
  same : (u : Bool) → text_of u b table ≡ b

-- so it is with one Normal chunk, and with several without Math
normal-bytes : (b table : List ℕ) → one_normal b table ≡ true → Usual b → AsBytes b table
normal-bytes b table o u =
    let p = plain-list b table o (omega (arith, u.short)) (clear-ascii u.clear) in
    record { clean = p.clean; same = λ w. p.text w ∙ clear-text w false u.clear }

joined_bytes : (b table : List ℕ) → is_joined b table ≡ true → Usual b → AsBytes b table
joined_bytes b table j u = record { clean = joined-clean b table j u.clear; same = joined-text b table j u.clear }

as_bytes : (b table : List ℕ) → one_normal b table || is_joined b table ≡ true → Usual b → AsBytes b table
as_bytes b table e u =
    of_test (one_normal b table) (λ o. normal-bytes b table o u) (λ n. joined_bytes b table (rw n at e) u)

module _ (b table : List ℕ) {r : Result Date Refusal} where
  -- what is said of a list is said of its bytes
  of-list : {A : Type 0} → (one_normal b table || is_joined b table ≡ true → written b ≡ Some r → A) → list_written b table ≡ Some r → A
  unfolding list_written
  of-list {A} f =
      by-test (λ (a : Option (Result Date Refusal)). a ≡ Some r → A) (one_normal b table || is_joined b table) f (λ _ e. let z : ◌≡◌ {A = ℕ} 0 1 = cc in absurd (omega arith))

  -- what is said at once of a list is what the ported reader says,
  pub written-parsed : list_written b table ≡ Some r → parsed b table ≡ r
  written-parsed =
      of-list λ o e.
      let p = as_bytes b table o (answer-usual (said e)) in
      sym (parsed-clean b table p.clean (sym (p.same true))) ∙ text-parsed b e (span_of (chunks_of table))

  -- and what the strict one says
  pub written-strict : list_written b table ≡ Some r → parsed_strict b table ≡ r
  written-strict =
      of-list λ o e.
      let p = as_bytes b table o (answer-usual (said e)) in
      sym (strict-clean b table p.clean (sym (p.same false))) ∙ text-strict b e

  -- its numbers are of their types
  pub list-typed : list_written b table ≡ Some r → Typed r
  list-typed = of-list λ o e. written-typed b e

-- ---- words

-- a second word of 0 is that of no time
word-untimed : (d : Datetime) → time_word d ≡ 0 → d.time ≡ None
word-untimed d h = go d.time refl
  where
    go : (t : Option Time) → d.time ≡ t → d.time ≡ None
    go None e = e
    go (Some t) e = let k = rw e at h in absurd (omega arith)

-- where the first of an answer is 0, the Date has no time: only a point has one
pub written-untimed : (s : List ℕ) {d : Date} → written s ≡ Some (Ok d) → (words_of (Ok d)).first_time ≡ 0 → Untimed d.value
written-untimed s {d} e h = go d.value h (date-said e).ranged
  where
    go : (v : DateValue) → (value_words v (flag d.uncertain) (flag d.approximate)).first_time ≡ 0 → Ranged v → Untimed v
    go (At a) h r = word-untimed a h
    go (After a) h r = r
    go (Before a) h r = r
    go (Between a b) h r = r
