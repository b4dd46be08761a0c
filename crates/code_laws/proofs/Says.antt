-- What is said at once of a text that the ported reader alone reads: what each case has to show, and what then holds of a list of one Normal chunk.
-- Assumes nothing.
use mathlib.Core.Path.{◌≡◌, sym, ap, ◌∙◌}
use mathlib.Core.Bool.{true, false}
use mathlib.Core.List.{List, append-nil}
use Prim.Native.Nat.{ℕ, ◌+◌, ◌≤◌, ◌<◌}
use native.Mathlib.Omega.{arith}
use lib.Dec.{lit<}
use lib.ListN.{length, get_or}
use Rattle.chars.specs.Pick.{pick}
use Rattle.chars.proofs.Cases.{by-test}
use Rattle.refusals.specs.declared.Kind.{Kind}
use Rattle.refusals.specs.declared.FileSpan.{FileSpan}
use Rattle.dates.specs.declared.Date.{Date}
use Rattle.refusals.specs.declared.Refusal.{Refusal}
use Rattle.std.specs.Prelude.{Result, Ok, Err, Option, None, Some}
use Rattle.refusals.specs.Refusal.{has_place, refusal, file_span}
use Rattle.refusals.specs.Offset.{text_refusal, offset}
use Rattle.refusals.proofs.Sums.{sum_fits}
use Rattle.dates.specs.declared.DateValue.{DateValue}
use Rattle.dates.specs.Ends.{EachEnd}
use Rattle.dates.specs.Value.{date}
use Rattle.chunks.specs.Chunks.{chunks_of, span_of}
use Rattle.chunks.specs.Plain.{all_ascii, plain_text}
use Rattle.datefield.specs.Value.{value, marked, parse_text}
use Rattle.strict.specs.Grammar.{no_mark}
use Rattle.reading_laws.specs.Field.{parsed}
use Rattle.reading_laws.proofs.Entries.{parsed-clean}
use Rattle.roundtrip_laws.proofs.Bytes.{Clear, ValueText, each_of, value-clear, clear-text, clear-ascii}
use Rattle.roundtrip_laws.proofs.Trims.{text-marked}
use Rattle.codes.specs.Ported.{refused_at, moved_by}
use Rattle.codes.specs.Lists.{one_normal}
use Rattle.codes.specs.Typed.{DatetimeTyped, Typed}
use Rattle.code_laws.proofs.Lists.{span-start, plain-list}

-- where a list may start, so that no place becomes too large
abbrev pub Early : ℕ → Type 0
Early start = start < 0x8000000000000000

-- the numbers of a Date are of their types, and a place is near the text's front
abbrev pub Near : Result Date Refusal → Type 0
Near (Ok d) = EachEnd DatetimeTyped d.value
Near (Err e) = (e.place.0 ≤ 100) × (e.place.1 ≤ 100)

-- so the numbers are of their types wherever the list starts
pub near-typed : (r : Result Date Refusal) (start : ℕ) → Near r → Early start → Typed (moved_by start r)
unfolding moved_by refusal
near-typed (Ok d) start n h = n
near-typed (Err e) start n h =
    by-test (λ (p : FileSpan). (p.0 < 18446744073709551616) × (p.1 < 18446744073709551616)) (has_place e.kind)
    (λ _. (omega (arith, n.0), omega (arith, n.1)))
    (λ _. (lit< tt, lit< tt))

-- the ported reader says it of the text in upper case, wherever the list starts
pub record Says (s : List ℕ) (r : Result Date Refusal) : Type 0 where
  pub small : length s ≤ 4096
  pub ascii : all_ascii s ≡ true
  pub text : (span : FileSpan) → Early span.0 → parse_text span (plain_text true false s) ≡ moved_by span.0 r
  pub near : Near r

-- the same of what is said, if anything is
abbrev pub Saying : List ℕ → Option (Result Date Refusal) → Type 0
Saying s None = Unit {0}
Saying s (Some r) = Says s r

-- a place near the text's front, moved by the list's start
module _ (k : Kind) (p : has_place k ≡ true) (c d : ℕ) (h : c ≤ 100) (l : d ≤ 100) where
  moved-is : (start : ℕ) → moved_by start (refused_at k c d) ≡ Err (refusal k (file_span (c + start) (d + start)))
  unfolding moved_by refusal pick
  moved-is start = rw p

  -- as the offset rule says, by the list's start and what stands before the part that is refused
  pub place-moves : (start a b amount : ℕ) → Early start → a + amount ≡ c + start → b + amount ≡ d + start → Err (offset (text_refusal k a b) amount) ≡ moved_by start (refused_at k c d)
  unfolding offset
  place-moves start a b amount e f g = rw (sum_fits a amount (omega arith), sum_fits b amount (omega arith), f, g) (sym (moved-is start))

  pub place-near : Near (refused_at k c d)
  unfolding refusal pick
  place-near = rw p (h, l)

-- a text that is a value's, with no mark
module _ {s : List ℕ} (k : ValueText s) where
  unmarked-text : (span : FileSpan) → parse_text span s ≡ marked false false (value span s)
  unmarked-text span = ap (parse_text span) (sym (append-nil s)) ∙ text-marked span k no_mark

  pub of-text : {r : Result Date Refusal} → ((span : FileSpan) → Early span.0 → marked false false (value span s) ≡ moved_by span.0 r) → Near r → Says s r
  of-text f t =
      let c : Clear s = each_of value-clear k.in_value in
      record {
        small = omega (arith, k.short);
        ascii = clear-ascii c;
        text = λ span h. rw (clear-text true false c) (unmarked-text span ∙ f span h);
        near = t;
      }

  pub value-says : {v : DateValue} → ((span : FileSpan) → value span s ≡ Ok v) → EachEnd DatetimeTyped v → Says s (Ok (date v false false))
  unfolding marked moved_by
  value-says {v} f t = of-text (λ span h. rw (f span)) t

-- of a list of one Normal chunk
pub parsed-says : (b table : List ℕ) {r : Result Date Refusal} → one_normal b table ≡ true → Early (get_or table 2 0) → Says b r → parsed b table ≡ moved_by (get_or table 2 0) r
parsed-says b table {r} o h k =
    let l = plain-list b table o k.small k.ascii in
    let e = span-start b table o in
    sym (parsed-clean b table l.clean (sym (l.text true)))
    ∙ k.text (span_of (chunks_of table)) (rw e h)
    ∙ ap (λ (n : ℕ). moved_by n r) e
