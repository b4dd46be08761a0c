-- Counts and lengths counted down, one by one; and the bytes of the first chunks of a table. Assumes nothing.
use mathlib.Core.Path.{◌≡◌, sym, ◌∙◌}
use mathlib.Core.Bool.{false}
use mathlib.Core.List.{List, [], ◌∷◌}
use Prim.Native.Nat.{ℕ, zero, suc, ◌+◌, ◌-◌, ◌*◌, ◌/◌, ◌≤◌, ◌<◌}
use native.Mathlib.Nat.{zero-add}
use native.Mathlib.Numerals.{add-one}
use native.Mathlib.Omega.{arith}
use borrow.Author.Tests.{eq-eqb, ne_eqb, eqb-true, eqb-false}
use lib.Dec.{eqb}
use lib.ListN.{length, get_or, drop, drop_of_length-le}
use lib.Seq.{drop-cons}
use Rattle.chars.proofs.Cases.{of_test}
use Rattle.chunks.specs.Chunks.{chunks_of, lengths}
use Rattle.chunks.proofs.Tables.{chunks-at, chunks-over}
use Rattle.pages.specs.Pieces.{total, size_of}

-- two tests of numbers that are equal together
same_test : (a b x y : ℕ) → (a ≡ b → x ≡ y) → (x ≡ y → a ≡ b) → eqb a b ≡ eqb x y
same_test a b x y there back =
    of_test (eqb x y) (λ t. eq-eqb a b (back (eqb-true x y t)) ∙ sym t) (λ t. ne_eqb a b (λ (e : a ≡ b). eqb-false x y t (there e)) ∙ sym t)

pub total-at : (cs : List ℕ) (i : ℕ) → i < length cs → total (drop i cs) ≡ get_or cs i 0 + total (drop (i + 1) cs)
unfolding total
total-at cs i h = rw (add-one, drop-cons cs i 0 h)

pub total-over : (cs : List ℕ) (i left : ℕ) → i < length cs → left / 4 < get_or cs i 0 → eqb (4 * total (drop i cs)) left ≡ false
total-over cs i left h l =
    ne_eqb (4 * total (drop i cs)) left (λ (e : 4 * total (drop i cs) ≡ left). omega (arith, total-at cs i h))

pub total-on : (cs : List ℕ) (i left : ℕ) → i < length cs → get_or cs i 0 ≤ left / 4 → eqb (4 * total (drop i cs)) left ≡ eqb (4 * total (drop (i + 1) cs)) (left - 4 * get_or cs i 0)
total-on cs i left h l =
    same_test (4 * total (drop i cs)) left (4 * total (drop (i + 1) cs)) (left - 4 * get_or cs i 0)
    (λ (e : 4 * total (drop i cs) ≡ left). omega (arith, total-at cs i h))
    (λ (e : 4 * total (drop (i + 1) cs) ≡ left - 4 * get_or cs i 0). omega (arith, total-at cs i h))

pub total-end : (cs : List ℕ) (i left : ℕ) → length cs ≤ i → eqb left 0 ≡ eqb (4 * total (drop i cs)) left
unfolding total
total-end cs i left h =
    rw (drop_of_length-le cs h) (same_test left 0 0 left (λ (e : left ≡ 0). sym e) (λ (e : 0 ≡ left). sym e))

pub lengths-at : (t : List ℕ) (k : ℕ) → k + 3 < length t → lengths (chunks_of (drop k t)) ≡ get_or t (k + 1) 0 + lengths (chunks_of (drop (k + 4) t))
unfolding lengths
lengths-at t k h = rw (chunks-at t k h)

pub lengths_none : (t : List ℕ) (k : ℕ) → length t ≤ k → lengths (chunks_of (drop k t)) ≡ 0
unfolding lengths
lengths_none t k h = rw (chunks-over t k h)

pub lengths-over : (t : List ℕ) (k left : ℕ) → k + 3 < length t → left < get_or t (k + 1) 0 → eqb (lengths (chunks_of (drop k t))) left ≡ false
lengths-over t k left h l =
    ne_eqb (lengths (chunks_of (drop k t))) left (λ (e : lengths (chunks_of (drop k t)) ≡ left). omega (arith, lengths-at t k h))

pub lengths-on : (t : List ℕ) (k left : ℕ) → k + 3 < length t → get_or t (k + 1) 0 ≤ left → eqb (lengths (chunks_of (drop k t))) left ≡ eqb (lengths (chunks_of (drop (k + 4) t))) (left - get_or t (k + 1) 0)
lengths-on t k left h l =
    same_test (lengths (chunks_of (drop k t))) left (lengths (chunks_of (drop (k + 4) t))) (left - get_or t (k + 1) 0)
    (λ (e : lengths (chunks_of (drop k t)) ≡ left). omega (arith, lengths-at t k h))
    (λ (e : lengths (chunks_of (drop (k + 4) t)) ≡ left - get_or t (k + 1) 0). omega (arith, lengths-at t k h))

pub lengths-end : (t : List ℕ) (k left : ℕ) → length t ≤ k → eqb left 0 ≡ eqb (lengths (chunks_of (drop k t))) left
lengths-end t k left h =
    rw (lengths_none t k h) (same_test left 0 0 left (λ (e : left ≡ 0). sym e) (λ (e : 0 ≡ left). sym e))

four-more : (n : ℕ) → 4 * suc n ≡ suc (suc (suc (suc (4 * n))))
four-more n = omega arith

-- the bytes of the first chunks, and of those behind them
pub split : (n : ℕ) (t : List ℕ) → 4 * n ≤ length t → lengths (chunks_of t) ≡ size_of n t + lengths (chunks_of (drop (4 * n) t))
unfolding size_of lengths chunks_of
split zero t h = sym (zero-add (lengths (chunks_of t)))
split (suc n) [] h = absurd (omega arith)
split (suc n) (a ∷ []) h = absurd (omega arith)
split (suc n) (a ∷ b ∷ []) h = absurd (omega arith)
split (suc n) (a ∷ b ∷ c ∷ []) h = absurd (omega arith)
split (suc n) (a ∷ b ∷ c ∷ d ∷ r) h = rw (four-more n) (omega (arith, split n r (omega arith)))
