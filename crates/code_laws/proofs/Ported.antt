-- What is said at once of a text that the ported reader alone reads is what that reader says of the list.
-- Assumes nothing.
use mathlib.Core.Path.{◌≡◌, subst}
use mathlib.Core.Bool.{true, ◌&&◌}
use mathlib.Core.List.{List}
use Prim.Native.Nat.{ℕ, ◌≤◌}
use borrow.Author.Tests.{eqb-true, leb-true, ltb-true}
use lib.Dec.{eqb, ltb, leb, lit≤}
use lib.ListN.{length, get_or}
use Rattle.chars.proofs.Cases.{by-test, and-true}
use Rattle.dates.specs.declared.Date.{Date}
use Rattle.refusals.specs.declared.Refusal.{Refusal}
use Rattle.std.specs.Prelude.{Result, Option, None, Some}
use Rattle.reading_laws.specs.Field.{parsed}
use Rattle.codes.specs.Points.{on_some}
use Rattle.codes.specs.Texts.{is_slash, slash_of}
use Rattle.codes.specs.Ported.{is_unknown, day_or_days, ported, moved_by}
use Rattle.codes.specs.Lists.{one_normal, list_ported}
use Rattle.codes.specs.Typed.{Typed}
use Rattle.code_laws.proofs.Says.{Early, near-typed, Saying, parsed-says}
use Rattle.code_laws.proofs.Short.{short-says}
use Rattle.code_laws.proofs.NoYear.{empty-says, words-say}
use Rattle.code_laws.proofs.Unknown.{years-say, months-say, days-say}
use Rattle.code_laws.proofs.BadDays.{bad-says, bad-range-says}

slash-near : (s : List ℕ) → slash_of s ≤ 80
unfolding slash_of
slash-near s =
    by-test (λ (k : ℕ). k ≤ 80) (is_slash s 4) (λ _. lit≤ tt)
    (λ _. by-test (λ (k : ℕ). k ≤ 80) (is_slash s 7) (λ _. lit≤ tt) (λ _. by-test (λ (k : ℕ). k ≤ 80) (is_slash s 2) (λ _. lit≤ tt) (λ _. lit≤ tt)))

days-or-none : (s : List ℕ) → length s ≡ 10 → Saying s (day_or_days s)
unfolding day_or_days
days-or-none s n = by-test (Saying s) (is_unknown s 8) (λ u. days-say s n u) (λ _. bad-says s n)

-- in each case
pub ported-says : (s : List ℕ) → Saying s (ported s)
unfolding ported
ported-says s =
    by-test (Saying s) (eqb (length s) 0) (λ n. empty-says s (eqb-true _ 0 n))
    (λ _. by-test (Saying s) (leb 0x3A (get_or s 0 0)) (λ h. words-say s (leb-true 0x3A _ h))
    (λ _. by-test (Saying s) (eqb (length s) 2) (λ n. short-says s (eqb-true _ 2 n))
    (λ _. by-test (Saying s) (eqb (length s) 4) (λ n. years-say s (eqb-true _ 4 n))
    (λ _. by-test (Saying s) (eqb (length s) 7) (λ n. months-say s (eqb-true _ 7 n))
    (λ _. by-test (Saying s) (eqb (length s) 10) (λ n. days-or-none s (eqb-true _ 10 n))
    (λ _. bad-range-says s (slash_of s) (slash-near s)))))))

-- of a list: the ported reader says it, and its numbers are of their types
module _ (b table : List ℕ) where
  abbrev Told : Option (Result Date Refusal) → Type 0
  Told None = Unit {0}
  Told (Some r) = (parsed b table ≡ r) × Typed r

  moved_told : one_normal b table ≡ true → Early (get_or table 2 0) → (x : Option (Result Date Refusal)) → Saying b x → Told (on_some x λ r. Some (moved_by (get_or table 2 0) r))
  unfolding on_some
  moved_told o h None k = tt
  moved_told o h (Some r) k = (parsed-says b table o h k, near-typed r (get_or table 2 0) k.near h)

  told : Told (list_ported b table)
  unfolding list_ported
  told =
      by-test Told (one_normal b table && ltb (get_or table 2 0) 0x8000000000000000)
      (λ t.
      let p = and-true (one_normal b table) _ t in
      let h = ltb-true (get_or table 2 0) 0x8000000000000000 p.1 in
      moved_told p.0 h (ported b) (ported-says b))
      (λ _. tt)

  pub ported-parsed : {r : Result Date Refusal} → list_ported b table ≡ Some r → parsed b table ≡ r
  ported-parsed e = (subst Told e told).0

  pub ported-typed : {r : Result Date Refusal} → list_ported b table ≡ Some r → Typed r
  ported-typed e = (subst Told e told).1
