-- A table by its chunks: the four numbers of the chunk at a place, how many chunks there are, and the list's span.
-- Assumes nothing.
use mathlib.Core.Path.{◌≡◌, refl, sym, ap, ◌∙◌}
use mathlib.Core.Bool.{true, ◌&&◌}
use mathlib.Core.List.{List, [], ◌∷◌}
use Prim.Native.Nat.{ℕ, suc, ◌+◌, ◌-◌, ◌*◌, ◌/◌, ◌%◌, ◌≤◌, ◌<◌}
use native.Mathlib.Nat.{add_assoc}
use native.Mathlib.Numerals.{add-one}
use native.Mathlib.Omega.{arith}
use borrow.Author.Tests.{eqb-true}
use lib.Dec.{eqb}
use lib.ListN.{length, get_or, drop, drop_of_length-le}
use lib.Seq.{drop-cons, get_or-append-add}
use Rattle.chars.proofs.Cases.{and-true}
use Rattle.refusals.specs.Refusal.{file_span}
use Rattle.chunks.specs.Chunks.{Chunk, chunks_of, kinds_known, lengths, fits, last_end, span_of}

-- the chunk whose four numbers start at k
abbrev pub chunk_at : List ℕ → ℕ → Chunk
chunk_at t k = record { kind = get_or t k 0; len = get_or t (k + 1) 0; start = get_or t (k + 2) 0; end = get_or t (k + 3) 0 }

one : (l : List ℕ) (i : ℕ) → i < length l → drop i l ≡ get_or l i 0 ∷ drop (i + 1) l
one l i g = rw (add-one, drop-cons l i 0)

pub chunks-at : (t : List ℕ) (k : ℕ) → k + 3 < length t → chunks_of (drop k t) ≡ chunk_at t k ∷ chunks_of (drop (k + 4) t)
unfolding chunks_of
chunks-at l k h =
    let a : k < length l = omega arith in
    let b : k + 1 < length l = omega arith in
    let c : k + 2 < length l = omega arith in
    rw (one l k a, one l (k + 1) b, add_assoc k 1 1, one l (k + 2) c, add_assoc k 2 1, one l (k + 3) h, add_assoc k 3 1)

pub chunks-over : (t : List ℕ) (k : ℕ) → length t ≤ k → chunks_of (drop k t) ≡ []
unfolding chunks_of
chunks-over t k h = rw (drop_of_length-le t h)

-- there is a chunk for each four numbers
pub count : (t : List ℕ) → length (chunks_of t) ≡ length t / 4
unfolding chunks_of
count [] = refl
count (a ∷ []) = refl
count (a ∷ b ∷ []) = refl
count (a ∷ b ∷ c ∷ []) = refl
count (a ∷ b ∷ c ∷ d ∷ r) = let e = count r in omega arith

-- what a table that fits says
pub record Fits (b t : List ℕ) : Type 0 where
  pub fours : length t % 4 ≡ 0
  pub known : kinds_known (chunks_of t) ≡ true
  pub sum : lengths (chunks_of t) ≡ length b

pub of-fits : (b t : List ℕ) → fits b t ≡ true → Fits b t
unfolding fits
of-fits b t e =
    let p = and-true (eqb (length t % 4) 0) (kinds_known (chunks_of t) && eqb (lengths (chunks_of t)) (length b)) e in
    let q = and-true (kinds_known (chunks_of t)) (eqb (lengths (chunks_of t)) (length b)) p.1 in
    record { fours = eqb-true _ 0 p.0; known = q.0; sum = eqb-true _ _ q.1 }

-- the end of the last chunk stands behind the other numbers of its four
last : (e : ℕ) (t : List ℕ) → last_end e (chunks_of t) ≡ get_or (e ∷ t) (length t / 4 * 4) 0
unfolding last_end chunks_of
last e [] = refl
last e (a ∷ []) = refl
last e (a ∷ b ∷ []) = refl
last e (a ∷ b ∷ c ∷ []) = refl
last e (a ∷ b ∷ c ∷ d ∷ r) =
    let same : 4 + length r / 4 * 4 ≡ suc (suc (suc (suc (length r)))) / 4 * 4 = omega arith in
    last d r
    ∙ sym (get_or-append-add (e ∷ a ∷ b ∷ c ∷ []) (d ∷ r) (length r / 4 * 4) 0)
    ∙ ap (λ (n : ℕ). get_or (e ∷ a ∷ b ∷ c ∷ d ∷ r) n 0) same

pub no_span : (t : List ℕ) → length t / 4 * 4 ≡ 0 → file_span 0 0 ≡ span_of (chunks_of t)
unfolding span_of chunks_of
no_span [] h = refl
no_span (a ∷ []) h = refl
no_span (a ∷ b ∷ []) h = refl
no_span (a ∷ b ∷ c ∷ []) h = refl
no_span (a ∷ b ∷ c ∷ d ∷ r) h = absurd (omega arith)

pub some-span : (t : List ℕ) → (length t / 4 * 4 ≡ 0 → ⊥) → file_span (get_or t 2 0) (get_or t (length t / 4 * 4 - 1) 0) ≡ span_of (chunks_of t)
unfolding span_of chunks_of
some-span [] h = absurd (h refl)
some-span (a ∷ []) h = absurd (h refl)
some-span (a ∷ b ∷ []) h = absurd (h refl)
some-span (a ∷ b ∷ c ∷ []) h = absurd (h refl)
some-span (a ∷ b ∷ c ∷ d ∷ r) h =
    let same : suc (suc (suc (suc (length r)))) / 4 * 4 - 1 ≡ 3 + length r / 4 * 4 = omega arith in
    ap (file_span c)
    (ap (λ (n : ℕ). get_or (a ∷ b ∷ c ∷ d ∷ r) n 0) same
    ∙ get_or-append-add (a ∷ b ∷ c ∷ []) (d ∷ r) (length r / 4 * 4) 0
    ∙ sym (last d r))
