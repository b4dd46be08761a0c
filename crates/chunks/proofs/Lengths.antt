-- The lengths of a table counted down, chunk by chunk; and the bytes of a text tested for ASCII, byte by byte.
-- Assumes nothing.
use mathlib.Core.Path.{◌≡◌, sym, ◌∙◌}
use mathlib.Core.Bool.{Bool, true, false, ◌&&◌, and-false}
use mathlib.Core.List.{List, ◌∷◌}
use Prim.Native.Nat.{ℕ, ◌+◌, ◌-◌, ◌≤◌, ◌<◌}
use native.Mathlib.Numerals.{add-one}
use native.Mathlib.Omega.{arith}
use borrow.Author.Tests.{le-leb, lt-leb, lt-ltb, eq-eqb, ne_eqb, eqb-true, eqb-false}
use lib.Dec.{ltb, eqb}
use lib.ListN.{length, get_or, drop, drop_of_length-le}
use lib.Seq.{drop-cons}
use Rattle.chars.proofs.Cases.{of_test}
use Rattle.chunks.specs.Chunks.{Chunk, chunks_of, kinds_known, lengths}
use Rattle.chunks.specs.Plain.{all_ascii}
use Rattle.chunks.proofs.Tables.{chunk_at, chunks-at, chunks-over}

-- known kinds, and lengths that sum to n
abbrev pub fits_in : ℕ → List Chunk → Bool
fits_in n cs = kinds_known cs && eqb (lengths cs) n

eqb-less : (a b n : ℕ) → a ≤ n → eqb (a + b) n ≡ eqb b (n - a)
eqb-less a b n h =
    of_test (eqb b (n - a))
    (λ t. let e = eqb-true b (n - a) t in eq-eqb (a + b) n (omega arith) ∙ sym t)
    (λ t. ne_eqb (a + b) n (λ (e : a + b ≡ n). eqb-false b (n - a) t (omega arith)) ∙ sym t)

module _ (t : List ℕ) (k left : ℕ) (h : k + 3 < length t) where
  pub kind-unknown : 2 < get_or t k 0 → fits_in left (chunks_of (drop k t)) ≡ false
  unfolding kinds_known
  kind-unknown l = rw (chunks-at t k h, lt-leb (get_or t k 0) 2 l)

  pub length_over : left < get_or t (k + 1) 0 → fits_in left (chunks_of (drop k t)) ≡ false
  unfolding lengths
  length_over l =
      rw (chunks-at t k h, ne_eqb (get_or t (k + 1) 0 + lengths (chunks_of (drop (k + 4) t))) left (λ (e : get_or t (k + 1) 0 + lengths (chunks_of (drop (k + 4) t)) ≡ left). omega arith))
      (and-false (kinds_known (chunk_at t k ∷ chunks_of (drop (k + 4) t))))

  pub length-on : get_or t k 0 ≤ 2 → get_or t (k + 1) 0 ≤ left → fits_in left (chunks_of (drop k t)) ≡ fits_in (left - get_or t (k + 1) 0) (chunks_of (drop (k + 4) t))
  unfolding kinds_known lengths
  length-on l m = rw (chunks-at t k h, le-leb (get_or t k 0) 2 l, eqb-less (get_or t (k + 1) 0) (lengths (chunks_of (drop (k + 4) t))) left m)

pub length-end : (t : List ℕ) (k left : ℕ) → length t ≤ k → eqb left 0 ≡ fits_in left (chunks_of (drop k t))
unfolding kinds_known lengths
length-end t k left h =
    rw (chunks-over t k h)
    (of_test (eqb left 0) (λ t. t ∙ sym (eq-eqb 0 left (sym (eqb-true left 0 t)))) (λ t. t ∙ sym (ne_eqb 0 left (λ e. eqb-false left 0 t (sym e)))))

module _ (t : List ℕ) (i : ℕ) (h : i < length t) where
  pub ascii-step : all_ascii (drop i t) ≡ (ltb (get_or t i 0) 0x80 && all_ascii (drop (i + 1) t))
  unfolding all_ascii
  ascii-step = rw (add-one, drop-cons t i 0 h)

  pub ascii-on : get_or t i 0 < 0x80 → all_ascii (drop i t) ≡ all_ascii (drop (i + 1) t)
  ascii-on l = ascii-step ∙ rw (lt-ltb (get_or t i 0) 0x80 l)

pub ascii-all : (t : List ℕ) (i : ℕ) → length t ≤ i → all_ascii (drop i t) ≡ true
unfolding all_ascii
ascii-all t i h = rw (drop_of_length-le t h)
