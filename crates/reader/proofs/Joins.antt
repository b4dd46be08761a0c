-- The lengths of a table without a Math chunk counted down, chunk by chunk; and what each test of a joined list says.
-- Assumes nothing.
use mathlib.Core.Path.{◌≡◌}
use mathlib.Core.Bool.{Bool, false, ◌&&◌, and-false}
use mathlib.Core.List.{List}
use Prim.Native.Nat.{ℕ, ◌+◌, ◌-◌, ◌%◌, ◌≤◌, ◌<◌}
use native.Mathlib.Omega.{arith}
use borrow.Author.Tests.{le-leb, lt-leb, eq-eqb, ne_eqb}
use lib.Dec.{leb, eqb}
use lib.ListN.{length, get_or, drop}
use Rattle.chunks.specs.Chunks.{Chunk, chunks_of, no_math, fits}
use Rattle.chunks.proofs.Lengths as all
use Rattle.chunks.proofs.Lengths.{fits_in}
use Rattle.chunks.proofs.Tables.{chunks-at, chunks-over, count}
use Rattle.codes.specs.Lists.{is_joined}

-- no Math, known kinds, and lengths that sum to n
abbrev pub joins_in : ℕ → List Chunk → Bool
joins_in n cs = no_math cs && fits_in n cs

module _ (t : List ℕ) (k left : ℕ) (h : k + 3 < length t) where
  pub kind-math : 1 < get_or t k 0 → joins_in left (chunks_of (drop k t)) ≡ false
  unfolding no_math
  kind-math l = rw (chunks-at t k h, lt-leb (get_or t k 0) 1 l)

  pub length_over : left < get_or t (k + 1) 0 → joins_in left (chunks_of (drop k t)) ≡ false
  length_over l = rw (all.length_over t k left h l) (and-false (no_math (chunks_of (drop k t))))

  math-on : get_or t k 0 ≤ 1 → no_math (chunks_of (drop k t)) ≡ no_math (chunks_of (drop (k + 4) t))
  unfolding no_math
  math-on l = rw (chunks-at t k h, le-leb (get_or t k 0) 1 l)

  pub length-on : get_or t k 0 ≤ 1 → get_or t (k + 1) 0 ≤ left → joins_in left (chunks_of (drop k t)) ≡ joins_in (left - get_or t (k + 1) 0) (chunks_of (drop (k + 4) t))
  length-on l m = rw (math-on l, all.length-on t k left h (omega arith) m)

pub length-end : (t : List ℕ) (k left : ℕ) → length t ≤ k → eqb left 0 ≡ joins_in left (chunks_of (drop k t))
unfolding no_math
length-end t k left h = rw (all.length-end t k left h, chunks-over t k h)

module _ (b t : List ℕ) where
  pub bytes-over : 54 < length b → false ≡ is_joined b t
  unfolding is_joined
  bytes-over h = rw (lt-leb (length b) 54 h)

  pub no-fours : (length t % 4 ≡ 0 → ⊥) → false ≡ is_joined b t
  unfolding is_joined fits
  no-fours h = rw (ne_eqb (length t % 4) 0 h, and-false (no_math (chunks_of t)), and-false (leb (length (chunks_of t)) 64), and-false (leb (length b) 54))

  pub chunks-many : length t % 4 ≡ 0 → 256 < length t → false ≡ is_joined b t
  unfolding is_joined
  chunks-many f h = let n = count t in rw (lt-leb (length (chunks_of t)) 64 (omega arith), and-false (leb (length b) 54))

  pub by-chunks : length b ≤ 54 → length t % 4 ≡ 0 → length t ≤ 256 → joins_in (length b) (chunks_of t) ≡ is_joined b t
  unfolding is_joined fits
  by-chunks s f h =
      let n = count t in
      rw (le-leb (length b) 54 s, le-leb (length (chunks_of t)) 64 (omega arith), eq-eqb (length t % 4) 0 f)
