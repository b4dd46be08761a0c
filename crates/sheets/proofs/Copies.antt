-- The text of a cell that was copied. Assumes nothing.
use Prim.Native.Nat.{ℕ, ◌≤◌}
use lib.Seq.{sets-eq, take_at, length-sets}
use Rattle.chars.specs.Pick.{pick}
use lib.ListN.{length, take}
use borrow.Author.Tests.{le-leb}
use lib.Dec.{eqb}
use Rattle.chars.proofs.Cases.{by-test}
use native.Mathlib.Omega.{arith}
use mathlib.Core.Path.{◌≡◌, ap, refl, sym, ◌∙◌}
use mathlib.Core.List.{List, [], ◌∷◌}
use Rattle.std.specs.Prelude.{Option, Some, None, unwrap_or}
use Rattle.csv_rows.specs.Texts.{undoubled, copied, copied_into}

-- the text is no longer than the own bytes
pub undoubled-short : (s : List ℕ) → length (undoubled s) ≤ length s
unfolding undoubled
undoubled-short [] = omega arith
undoubled-short (b ∷ []) = omega arith
undoubled-short (b ∷ c ∷ s) =
    by-test (λ (l : List ℕ). length l ≤ length (b ∷ c ∷ s)) (eqb b 34)
    (λ _. by-test (λ (l : List ℕ). length l ≤ length (b ∷ c ∷ s)) (eqb c 34) (λ _. omega (arith, undoubled-short s)) (λ _. omega (arith, undoubled-short (c ∷ s))))
    (λ _. omega (arith, undoubled-short (c ∷ s)))

module _ (own text : List ℕ) (h : length own ≤ length text) {r : Option ℕ} {text' : List ℕ} (er : r ≡ copied own (length text)) (et : text' ≡ copied_into own text) where
  -- there is room
  pub copied-there : {n : ℕ} → r ≡ Some n → (take n text' ≡ undoubled own) × (n ≤ length text')
  unfolding copied copied_into pick
  copied-there {n} e =
      let q = le-leb (length own) (length text) h in
      let x = rw q at er in
      let y = rw q at et in
      let m : n ≡ length (undoubled own) = cc in
      let k = undoubled-short own in
      (rw (y, m) (ap (take (length (undoubled own))) (sets-eq (undoubled own) text 0 (omega arith)) ∙ take_at (undoubled own) _ (length (undoubled own)) refl), rw y (omega (arith, length-sets text 0 (undoubled own))))

  pub copied-not : r ≡ None → ⊥
  unfolding copied pick
  copied-not e = let x = rw (le-leb (length own) (length text) h) at er in let z : ◌≡◌ {A = ℕ} 0 1 = cc in omega arith

  -- its length, or 0 where there were none
  pub copied-front : {n : ℕ} → n ≡ unwrap_or r 0 → (take n text' ≡ undoubled own) × (n ≤ length text')
  copied-front {n} e = by-copied r refl where
    by-copied : (x : Option ℕ) → r ≡ x → (take n text' ≡ undoubled own) × (n ≤ length text')
    by-copied (Some m) q = copied-there (q ∙ ap Some (sym (e ∙ ap (λ (x : Option ℕ). unwrap_or x 0) q)))
    by-copied None q = absurd (copied-not q)
