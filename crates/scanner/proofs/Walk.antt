-- A walk by steps over a text of n bytes, of which each step stays within: what holds of it for any step. `walk-stop` and `walk-go`
-- say all of it; the rest follows.
-- Assumes nothing.
use mathlib.Core.Path.{◌≡◌, refl, sym, ◌∙◌}
use mathlib.Core.Logic.{⊎_elim}
use Prim.Native.Nat.{ℕ, zero, suc, ◌+◌, ◌-◌, ◌≤◌, ◌<◌}
use native.Mathlib.Nat.{le_refl, eq-zero-or-pos}
use native.Mathlib.Omega.{arith}
use borrow.Author.Tests.{eq-eqb, ne_eqb, eqb-true, eqb-false}
use lib.Dec.{eqb}
use Rattle.chars.specs.Pick.{pick}
use Rattle.chars.proofs.Cases.{by-test}
use Rattle.scanner.specs.Scan.{walk}

module _ (step : ℕ → ℕ) (n : ℕ) (fits : (i : ℕ) → step i ≤ n - i) where
  -- a step of 0: the place stays
  pub walk-stop : (f at : ℕ) → step at ≡ 0 → walk step f at ≡ at
  unfolding walk pick
  walk-stop zero at h = refl
  walk-stop (suc f) at h = simp (eq-eqb _ _ h)

  one-step : (f at : ℕ) → 0 < step at → walk step (suc f) at ≡ walk step f (at + step at)
  unfolding walk pick
  one-step f at h = simp (ne_eqb (step at) 0 (omega arith))

  -- with as many steps as there are bytes left, more steps change nothing
  enough : (f g at : ℕ) → n ≤ at + f → n ≤ at + g → walk step f at ≡ walk step g at
  enough zero g at hf hg = walk-stop zero at (omega (arith, fits at)) ∙ sym (walk-stop g at (omega (arith, fits at)))
  enough (suc f) zero at hf hg = walk-stop (suc f) at (omega (arith, fits at)) ∙ sym (walk-stop zero at (omega (arith, fits at)))
  enough (suc f) (suc g) at hf hg =
      ⊎_elim (λ e. walk-stop (suc f) at e ∙ sym (walk-stop (suc g) at e))
      (λ h. one-step f at h ∙ enough f g (at + step at) (omega arith) (omega arith) ∙ sym (one-step g at h))
      (eq-zero-or-pos (step at))

  -- a step: on behind it
  pub walk-go : (at : ℕ) → 0 < step at → walk step n at ≡ walk step n (at + step at)
  walk-go at h = enough n (suc n) at (omega arith) (omega arith) ∙ one-step n at h

  -- what holds at the place, and is kept by each step, holds at the end
  pub walk_kept : (P : ℕ → Type 0) → ((i : ℕ) → 0 < step i → P i → P (i + step i)) → (f at : ℕ) → P at → P (walk step f at)
  unfolding walk
  walk_kept P keep zero at p = p
  walk_kept P keep (suc f) at p =
      by-test P (eqb (step at) 0) (λ _. p)
      (λ e. walk_kept P keep f (at + step at) (keep at (omega (arith, eqb-false (step at) 0 e)) p))

  -- no step is left at the end
  walk-over : (f at : ℕ) → n ≤ at + f → step (walk step f at) ≡ 0
  unfolding walk
  walk-over zero at h = omega (arith, fits at)
  walk-over (suc f) at h =
      by-test (λ i. step i ≡ 0) (eqb (step at) 0) (λ e. eqb-true (step at) 0 e)
      (λ e. walk-over f (at + step at) (omega (arith, eqb-false (step at) 0 e)))

  pub walk-ended : (at : ℕ) → step (walk step n at) ≡ 0
  walk-ended at = walk-over n at (omega arith)

  pub walk-least : (at : ℕ) → at ≤ walk step n at
  walk-least at = walk_kept (λ i. at ≤ i) (λ i h p. omega arith) n at (le_refl at)

  pub walk_inside : (at : ℕ) → at ≤ n → walk step n at ≤ n
  walk_inside at h = walk_kept (λ i. i ≤ n) (λ i l p. omega (arith, fits i)) n at h
