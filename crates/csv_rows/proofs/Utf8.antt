-- Line feeds that are counted, and characters that are passed, one by one. Assumes nothing.
use mathlib.Core.Path.{◌≡◌, refl, sym, ◌∙◌}
use mathlib.Core.Bool.{Bool, true, false, false≢true, ◌&&◌}
use mathlib.Core.List.{List, [], ◌∷◌}
use Prim.Native.Nat.{ℕ, zero, suc, ◌+◌, ◌-◌, ◌≤◌, ◌<◌}
use native.Mathlib.Omega.{arith}
use borrow.Author.Tests.{ltb-true, ne_eqb}
use lib.Dec.{eqb, ltb}
use lib.ListN.{length, get_or, drop, length-drop}
use lib.Seq.{drop-drop}
use Rattle.chars.specs.Pick.{pick}
use Rattle.chars.specs.Utf8.{first, len_d, decode_at}
use Rattle.chars.proofs.Laws.{first-ascii, fits}
use Rattle.std.specs.List.{count_by}
use Rattle.std.proofs.lemmas.List.Recursion.{is_count_by}
use Rattle.chars.proofs.Cases.{of_test}
use Rattle.csv_rows.specs.Bytes.{one_if, feeds, utf8_from, utf8_end}
use Rattle.csv_rows.specs.Scans.{SameEnd}
use Rattle.csv_rows.proofs.Laws.{front}

-- line feeds
pub one-most : (t : Bool) (n : ℕ) → n ≡ one_if t → n ≤ 1
unfolding one_if pick
one-most true n e = omega arith
one-most false n e = omega arith

pub feeds-count : (s : List ℕ) → feeds s ≡ count_by (λ b. eqb b 10) s
unfolding feeds one_if pick
feeds-count s = is_count_by feeds (λ b. eqb b 10) refl (λ b t. of_test (eqb b 10) (λ e. rw e) (λ e. rw e (omega arith))) s

feeds-one : (s : List ℕ) (i : ℕ) → i < length s → feeds (drop i s) ≡ one_if (eqb (get_or s i 0) 10) + feeds (drop (i + 1) s)
unfolding feeds
feeds-one s i h = rw (front s i h)

pub feeds-go : (s : List ℕ) (i n k m : ℕ) → i < length s → k ≡ one_if (eqb (get_or s i 0) 10) → n + feeds (drop i s) ≡ m → n + k + feeds (drop (i + 1) s) ≡ m
feeds-go s i n k m h e f = let g = feeds-one s i h in omega arith

pub feeds-most : (s : List ℕ) → feeds s ≤ length s
unfolding feeds
feeds-most [] = omega arith
feeds-most (b ∷ s) = let h = feeds-most s in let g = one-most (eqb b 10) (one_if (eqb b 10)) refl in omega arith

-- characters
utf8-skip : (k : ℕ) (t : List ℕ) → k ≤ length t → utf8_from k t ≡ k + utf8_from 0 (drop k t)
unfolding utf8_from
utf8-skip zero t h = omega arith
utf8-skip (suc k) [] h = absurd (omega arith)
utf8-skip (suc k) (b ∷ t) h = let e = utf8-skip k t (omega arith) in omega arith

pub utf8-front : (t : List ℕ) (k : ℕ) → 0 < k → k ≤ length t → len_d (first t) ≡ k → utf8_end t ≡ k + utf8_end (drop k t)
unfolding utf8_end utf8_from pick
utf8-front [] k h l e = absurd (omega arith)
utf8-front (b ∷ t) zero h l e = absurd (omega arith)
utf8-front (b ∷ t) (suc k) h l e = let f : suc k - 1 ≡ k = omega arith in let g = utf8-skip k t (omega arith) in rw (e, f, ne_eqb (suc k) 0 (λ z. omega arith)) (omega arith)

pub utf8-none : (t : List ℕ) → len_d (first t) ≡ 0 → utf8_end t ≡ 0
unfolding utf8_end utf8_from pick
utf8-none [] e = refl
utf8-none (b ∷ t) e = rw e

module _ (s : List ℕ) (i : ℕ) where
  pub step-inside : (k : ℕ) → i ≤ length s → k ≡ len_d (decode_at s i) → i + k ≤ length s
  step-inside k h e = let f = fits s i in omega arith

  pub some : (k : ℕ) → (k ≡ 0 → ⊥) → 0 < k
  some k h = omega arith

  pub utf8-step : (k : ℕ) → 0 < k → i ≤ length s → k ≡ len_d (decode_at s i) → i + k + utf8_end (drop (i + k) s) ≡ i + utf8_end (drop i s)
  unfolding decode_at
  utf8-step k p h e =
      let d = length-drop i s in
      let f = step-inside k h e in
      let z = utf8-front (drop i s) k p (omega arith) (sym e) in
      let y = rw (drop-drop k i s) at z in
      omega arith

  pub utf8-stop : (k : ℕ) → k ≡ 0 → k ≡ len_d (decode_at s i) → i ≡ i + utf8_end (drop i s)
  unfolding decode_at
  utf8-stop k p e = let z = utf8-none (drop i s) (sym e ∙ p) in omega arith

  ascii-one : i < length s → get_or s i 0 < 128 → i + 1 + utf8_end (drop (i + 1) s) ≡ i + utf8_end (drop i s)
  unfolding decode_at len_d
  ascii-one h l = utf8-step 1 (omega arith) (omega arith) (rw (front s i h, first-ascii (get_or s i 0) (drop (i + 1) s) l))

pub ascii-go : (s : List ℕ) (at i : ℕ) (all : Bool) → at + i < length s → (all ≡ true → SameEnd utf8_end s at (at + i)) → all && ltb (get_or s (at + i) 0) 128 ≡ true → SameEnd utf8_end s at (at + (i + 1))
ascii-go s at i false h f z = absurd (false≢true z)
ascii-go s at i true h f z =
    let g : at + i + 1 ≡ at + (i + 1) = omega arith in
    let e = f refl in
    rw (← g) (record { same = ascii-one s (at + i) h (ltb-true (get_or s (at + i) 0) 128 z) ∙ e.same; upward = omega arith; within = omega arith })
