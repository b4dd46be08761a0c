-- A list of one Normal chunk: where its span starts, and that it has no fault and the text that one pass gives.
-- Assumes nothing.
use mathlib.Core.Path.{◌≡◌, refl}
use mathlib.Core.Bool.{true}
use mathlib.Core.List.{List, [], ◌∷◌}
use Prim.Native.Nat.{ℕ, ◌≤◌}
use native.Mathlib.Omega.{arith}
use borrow.Author.Tests.{eqb-true}
use lib.Dec.{eqb}
use lib.ListN.{length, get_or}
use Rattle.chars.proofs.Cases.{and-true}
use Rattle.chunks.specs.Chunks.{chunks_of, span_of}
use Rattle.chunks.specs.Plain.{all_ascii}
use Rattle.chunks.proofs.Plains.{Plainly, plainly}
use Rattle.codes.specs.Lists.{one_normal}

four-start : (t : List ℕ) → length t ≡ 4 → (span_of (chunks_of t)).0 ≡ get_or t 2 0
unfolding span_of chunks_of
four-start [] h = absurd (omega arith)
four-start (a ∷ []) h = absurd (omega arith)
four-start (a ∷ b ∷ []) h = absurd (omega arith)
four-start (a ∷ b ∷ c ∷ []) h = absurd (omega arith)
four-start (a ∷ b ∷ c ∷ d ∷ []) h = refl
four-start (a ∷ b ∷ c ∷ d ∷ e ∷ t) h = absurd (omega arith)

module _ (b table : List ℕ) (o : one_normal b table ≡ true) where
  pub span-start : (span_of (chunks_of table)).0 ≡ get_or table 2 0
  unfolding one_normal
  span-start = four-start table (eqb-true _ 4 (and-true (eqb (length table) 4) _ o).0)

  pub plain-list : length b ≤ 4096 → all_ascii b ≡ true → Plainly b table
  unfolding one_normal
  plain-list h a =
      let p = and-true (eqb (length table) 4) _ o in
      let q = and-true (eqb (get_or table 0 0) 0) _ p.1 in
      plainly b table (record { four = eqb-true _ 4 p.0; normal_kind = eqb-true _ 0 q.0; whole = eqb-true _ _ q.1; small = h; ascii = a })
