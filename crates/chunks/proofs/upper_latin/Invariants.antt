use mathlib.Core.Path.{◌≡◌}
use mathlib.Core.List.{List}
use Prim.Native.Nat.{ℕ}
use lib.ListN.{drop}
use Rattle.chunks.specs.Upper.{uppercase}
use Rattle.chunks.specs.Latin.{raised_all}
use Rattle.chunks.proofs.Fill.{Filling}
use Rattle.chunks.proofs.upper_latin.Given as goal

-- what the buffer comes to with the upper case of the bytes that are left, which still stand there
pub record Raised (buf₀ buf : List ℕ) (p i : ℕ) : Type 0 where
  pub fill : Filling buf₀ 0 (uppercase buf₀) buf i (raised_all p (drop i buf₀))
  pub same : drop i buf ≡ drop i buf₀

abbrev pub invariant-loop-b : goal.invariant-loop-b
invariant-loop-b l = Raised l.initial.buf l.buf l.p l.b-index
