use mathlib.Core.Path.{◌≡◌}
use mathlib.Core.Bool.{true}
use mathlib.Core.List.{List}
use Prim.Native.Nat.{ℕ}
use lib.ListN.{drop}
use Rattle.chunks.specs.Upper.{uppercase, uppers}
use Rattle.chunks.specs.Plain.{all_ascii}
use Rattle.chunks.proofs.Fill.{Filling}
use Rattle.chunks.proofs.upper_bytes.Given as goal

-- what the buffer comes to with the upper case of the bytes that are left, which still stand there
pub record Raised (buf₀ buf : List ℕ) (i : ℕ) : Type 0 where
  pub fill : Filling buf₀ 0 (uppercase buf₀) buf i (uppers (drop i buf₀))
  pub same : drop i buf ≡ drop i buf₀
  pub ascii : all_ascii (drop i buf₀) ≡ true

abbrev pub invariant-loop-b : goal.invariant-loop-b
invariant-loop-b l = Raised l.initial.buf l.buf l.b-index
