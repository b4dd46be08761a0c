-- What the strict reader accepts and refuses, exactly: of a list without a fault, by derivation. Assumes nothing.
use mathlib.Core.Path.{◌≡◌, refl, ap, subst}
use mathlib.Core.List.{List, [], ◌∷◌}
use mathlib.Core.Logic.{◌↔◌}
use Prim.Native.Nat.{ℕ, ◌+◌}
use native.Mathlib.Omega.{arith}
use lib.ListN.{take, drop}
use Rattle.chars.specs.Classes.{is_admitted}
use Rattle.chars.specs.declared.Decoded.{Decoded}
use Rattle.chars.specs.declared.Decoded.TheVariants.{Char, Bad, End}
use Rattle.chars.proofs.Cases.{by-test}
use Rattle.refusals.specs.declared.Kind.{Kind}
use Rattle.refusals.specs.declared.Kind.TheVariants.{NotStrict}
use Rattle.refusals.specs.Refusal.{number, file_span, refusal}
use Rattle.refusals.specs.declared.Refusal.{Refusal}
use Rattle.std.specs.Prelude.{Option, Some, None, Result, Ok, Err}
use Rattle.chunks.specs.Chunks.{Chunk, chunks_of, fits, is_short}
use Rattle.chunks.specs.Characters.{characters}
use Rattle.chunks.specs.Check.{fault_in, or_else, fault_of, checked}
use Rattle.chunks.specs.Format.{formatted}
use Rattle.dates.specs.declared.Date.{Date}
use Rattle.strict.specs.Grammar.{Text}
use Rattle.strict.specs.Matcher.{strict}
use Rattle.strict.proofs.Exact.{exact, refused}
use Rattle.reading_laws.specs.Field.{on_clean, strictly, parsed_strict}

-- ---- a list's fault

-- the numbers that the faults of a list have
pub data Fault : ℕ → Type 0 where
  bad_utf8 : Fault 10
  unsupported : Fault 11
  bad_chunks : Fault 15
  too_long : Fault 16

abbrev FaultIn : Result (Unit {0}) Refusal → Type 0
FaultIn (Ok tt) = Unit {0}
FaultIn (Err e) = Fault (number e.kind)

of-characters : (p : ℕ) (l : List Decoded) → FaultIn (fault_in p l)
unfolding fault_in refusal
of-characters p [] = tt
of-characters p (Char c n ∷ l) = by-test FaultIn (is_admitted c) (λ _. of-characters (p + n) l) (λ _. unsupported)
of-characters p (Bad ∷ l) = bad_utf8
of-characters p (End ∷ l) = tt

of_either : (c d : Result (Unit {0}) Refusal) → FaultIn c → FaultIn d → FaultIn (or_else c d)
unfolding or_else
of_either (Ok tt) d h k = k
of_either (Err e) d h k = h

of-chunks : (p : ℕ) (b : List ℕ) (cs : List Chunk) → FaultIn (fault_of p b cs)
unfolding fault_of
of-chunks p b [] = tt
of-chunks p b (c ∷ cs) = of_either _ _ (of-characters p (characters (take c.len b))) (of-chunks (p + c.len) (drop c.len b) cs)

of-list : (b table : List ℕ) → FaultIn (checked b table)
unfolding checked refusal
of-list b table =
    by-test FaultIn (fits b table) (λ _. by-test FaultIn (is_short b table) (λ _. of-chunks 0 b (chunks_of table)) (λ _. too_long)) (λ _. bad_chunks)

-- the number of a refusal; 0 for a Date
abbrev told : Result Date Refusal → ℕ
told (Ok d) = 0
told (Err e) = number e.kind

clean-or : (c : Result (Unit {0}) Refusal) {r : Result Date Refusal} (k : Kind) → FaultIn c → (Fault (number k) → ⊥) → on_clean c r ≡ Err (refusal k (file_span 0 0)) → (c ≡ (Ok tt)) × (r ≡ Err (refusal k (file_span 0 0)))
unfolding on_clean refusal
clean-or (Ok tt) k h n e = (refl, e)
clean-or (Err x) k h n e = absurd (n (subst Fault (ap told e) h))

-- what is accepted has no fault,
pub clean-accepts : (c : Result (Unit {0}) Refusal) {r : Result Date Refusal} {d : Date} → on_clean c r ≡ Ok d → (c ≡ (Ok tt)) × (r ≡ Ok d)
unfolding on_clean
clean-accepts (Ok tt) e = (refl, e)
clean-accepts (Err x) e = let z : ◌≡◌ {A = ℕ} 0 1 = cc in absurd (omega arith)

-- and neither has what is refused with a number that no fault has
pub clean-refuses : (b table : List ℕ) {r : Result Date Refusal} (k : Kind) → (Fault (number k) → ⊥) → on_clean (checked b table) r ≡ Err (refusal k (file_span 0 0)) → (checked b table ≡ (Ok tt)) × (r ≡ Err (refusal k (file_span 0 0)))
clean-refuses b table k n e = clean-or (checked b table) k (of-list b table) n e

-- ---- by derivation

no-fault : Fault 12 → ⊥
no-fault f = go f refl
  where
    go : {n : ℕ} → Fault n → n ≡ 12 → ⊥
    go bad_utf8 e = omega arith
    go unsupported e = omega arith
    go bad_chunks e = omega arith
    go too_long e = omega arith

matched-is : (m : Option Date) {d : Date} → strictly m ≡ Ok d → m ≡ Some d
unfolding strictly
matched-is (Some c) e = cc
matched-is None e = let z : ◌≡◌ {A = ℕ} 0 1 = cc in absurd (omega arith)

unmatched-is : (m : Option Date) → strictly m ≡ Err (refusal NotStrict (file_span 0 0)) → m ≡ None
unfolding strictly
unmatched-is (Some c) e = let z : ◌≡◌ {A = ℕ} 0 1 = cc in absurd (omega arith)
unmatched-is None e = refl

-- a Date is accepted exactly if the list passes the checks and the strict grammar derives that Date from its text
pub strict-accepts : (b table : List ℕ) (d : Date) → (parsed_strict b table ≡ Ok d) ↔ ((checked b table ≡ (Ok tt)) × Text (formatted b table) d)
unfolding parsed_strict on_clean strictly
strict-accepts b table d =
    let s = formatted b table in (
      λ e. let p = clean-accepts (checked b table) {r = strictly (strict s)} e in (p.0, (exact s d).0 (matched-is (strict s) p.1)),
      λ (p : (checked b table ≡ (Ok tt)) × Text s d). rw (p.0, (exact s d).1 p.1),
    )

-- NotStrict is answered exactly if the list passes the checks and nothing derives its text
pub strict-refuses : (b table : List ℕ) → (parsed_strict b table ≡ Err (refusal NotStrict (file_span 0 0))) ↔ ((checked b table ≡ (Ok tt)) × ((d : Date) → Text (formatted b table) d → ⊥))
unfolding parsed_strict on_clean strictly
strict-refuses b table =
    let s = formatted b table in (
      λ e. let p = clean-refuses b table {r = strictly (strict s)} NotStrict no-fault e in (p.0, (refused s).0 (unmatched-is (strict s) p.1)),
      λ (p : (checked b table ≡ (Ok tt)) × ((d : Date) → Text s d → ⊥)). rw (p.0, (refused s).1 p.1),
    )

-- the derivation of an accepted list's text
pub derivation : (b table : List ℕ) {d : Date} → parsed_strict b table ≡ Ok d → Text (formatted b table) d
derivation b table {d} e = ((strict-accepts b table d).0 e).1
