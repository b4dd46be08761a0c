-- A half of a range goes on where its word is that of a point, and there is a place for the slash.
-- Assumes nothing.
use mathlib.Core.Path.{◌≡◌, refl, sym, ◌∙◌}
use mathlib.Core.List.{List}
use Prim.Native.Nat.{ℕ, ◌<◌}
use native.Mathlib.Omega.{arith}
use Rattle.chars.proofs.Cases.{by-test}
use Rattle.dates.specs.declared.Datetime.{Datetime}
use Rattle.dates.specs.declared.Date.{Date}
use Rattle.refusals.specs.declared.Refusal.{Refusal}
use Rattle.std.specs.Prelude.{Result, Option, None, Some}
use Rattle.codes.specs.Words.{nothing, point_word}
use Rattle.codes.specs.Points.{on_some, point_of}
use Rattle.codes.specs.Texts.{is_slash, slash_of}
use Rattle.codes.proofs.Laws.{Plain, plain-point}

module _ (go : Datetime → Option (Result Date Refusal)) where
  stops : (x : Option Datetime) → Plain x → point_word x ≡ nothing → on_some x go ≡ None
  unfolding on_some
  stops None p e = refl
  stops (Some d) p e = absurd (omega (arith, p.1, e))

  pub half-stops : (s : List ℕ) {w : ℕ} → w ≡ point_word (point_of s) → w ≡ nothing → on_some (point_of s) go ≡ None
  half-stops s e n = stops (point_of s) (plain-point s) (sym e ∙ n)

module _ (y : Option (Result Date Refusal)) where
  goes : (x : Option Datetime) → (point_word x ≡ nothing → ⊥) → on_some x (λ d. y) ≡ y
  unfolding on_some
  goes None h = absurd (h refl)
  goes (Some d) h = refl

  pub half-goes : (s : List ℕ) {w : ℕ} → w ≡ point_word (point_of s) → (w ≡ nothing → ⊥) → on_some (point_of s) (λ d. y) ≡ y
  half-goes s e h = goes (point_of s) (λ n. h (e ∙ n))

pub slash-below : (s : List ℕ) → slash_of s < 50
unfolding slash_of
slash-below s =
    by-test (λ (n : ℕ). n < 50) (is_slash s 4) (λ _. omega arith)
    (λ _. by-test (λ (n : ℕ). n < 50) (is_slash s 7) (λ _. omega arith) (λ _. by-test (λ (n : ℕ). n < 50) (is_slash s 2) (λ _. omega arith) (λ _. omega arith)))
