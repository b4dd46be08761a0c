-- The text of a cell, byte by byte. Assumes nothing.
use mathlib.Core.Path.{◌≡◌, refl, ◌∙◌}
use mathlib.Core.List.{List, [], ◌∷◌}
use Prim.Native.Nat.{ℕ, suc, ◌+◌, ◌≤◌, ◌<◌}
use native.Mathlib.Omega.{arith}
use lib.Dec.{eqb}
use lib.ListN.{length, get_or, drop, set, length-set, length-drop}
use lib.Seq.{sets, drop-drop, get_or-drop}
use Rattle.chars.specs.Pick.{pick}
use Rattle.chars.proofs.Cases.{of_test}
use Rattle.csv_rows.specs.Reader.{is}
use Rattle.csv_rows.specs.Texts.{undoubled}
use Rattle.csv_rows.specs.Scans.{text_step}
use Rattle.csv_rows.proofs.Laws.{past}

undoubled-step : (t : List ℕ) → 0 < length t → undoubled t ≡ get_or t 0 0 ∷ undoubled (drop (text_step t) t)
unfolding undoubled text_step pick is
undoubled-step [] h = absurd (omega arith)
undoubled-step (b ∷ []) h = of_test (eqb b 34) (λ q. rw q) (λ q. rw q)
undoubled-step (b ∷ c ∷ s) h = of_test (eqb b 34) (λ q. of_test (eqb c 34) (λ p. rw (q, p)) (λ p. rw (q, p))) (λ q. rw q)

step-within : (t : List ℕ) → 0 < length t → (1 ≤ text_step t) × (text_step t ≤ length t)
unfolding text_step pick is
step-within [] h = absurd (omega arith)
step-within (b ∷ []) h = of_test (eqb b 34) (λ q. rw q (omega arith, omega arith)) (λ q. rw q (omega arith, omega arith))
step-within (b ∷ c ∷ s) h = of_test (eqb b 34) (λ q. of_test (eqb c 34) (λ p. rw (q, p) (omega arith, omega arith)) (λ p. rw (q, p) (omega arith, omega arith))) (λ q. rw q (omega arith, omega arith))

-- so many bytes were copied, and the text of the rest is to come
pub record Copying (raw before out : List ℕ) (i n : ℕ) : Type 0 where
  pub same : sets out n (undoubled (drop i raw)) ≡ sets before 0 (undoubled raw)
  pub upto : n + length (undoubled (drop i raw)) ≡ length (undoubled raw)
  pub behind : n ≤ i
  pub within : i ≤ length raw
  pub long : length out ≡ length before

pub copy_start : (raw out : List ℕ) → Copying raw out out 0 0
copy_start raw out = record { same = refl; upto = omega arith; behind = omega arith; within = omega arith; long = refl }

module _ (raw : List ℕ) (i : ℕ) where
  pub step-bounds : (k : ℕ) → i < length raw → k ≡ text_step (drop i raw) → (1 ≤ k) × (i + k ≤ length raw)
  step-bounds k h e =
      let d = length-drop i raw in
      let w = step-within (drop i raw) (omega arith) in
      (omega (arith, w.0), omega (arith, w.1))

  at_place : (k : ℕ) → i < length raw → k ≡ text_step (drop i raw) → undoubled (drop i raw) ≡ get_or raw i 0 ∷ undoubled (drop (i + k) raw)
  at_place k h e =
      let d = length-drop i raw in
      let z : i + 0 ≡ i = omega arith in
      undoubled-step (drop i raw) (omega arith) ∙ rw (← e, drop-drop k i raw, get_or-drop i raw 0 0, z)

  pub copy_step : {before out : List ℕ} {n : ℕ} (k : ℕ) → i < length raw → k ≡ text_step (drop i raw) → Copying raw before out i n → Copying raw before (set out n (get_or raw i 0)) (i + k) (n + 1)
  copy_step {before} {out} {n} k h e c =
      let b = step-bounds k h e in
      let p = at_place k h e in
      let f : n + 1 ≡ suc n = omega arith in
      record {
        same = rw (f) (rw p at c.same);
        upto = let u = rw p at c.upto in omega arith;
        behind = omega (arith, c.behind, b.0);
        within = b.1;
        long = length-set out n (get_or raw i 0) ∙ c.long;
      }

  pub copy-end : {before out : List ℕ} {n : ℕ} → length raw ≤ i → Copying raw before out i n → (n ≡ length (undoubled raw)) × (out ≡ sets before 0 (undoubled raw))
  unfolding undoubled
  copy-end h c = let u = rw (past raw i h) at c.upto in let v = rw (past raw i h) at c.same in (omega arith, v)
