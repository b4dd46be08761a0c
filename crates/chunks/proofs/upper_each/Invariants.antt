use Rattle.chunks.proofs.Cased.{raise-fill, raise-same}
use Rattle.chunks.specs.Characters.{codes}
use Rattle.chars.specs.declared.Decoded.TheVariants.{Char}
use Rattle.chunks.proofs.Fill.{Filling, fill_start}
use Rattle.chunks.proofs.Room.{upper_long}
use Rattle.chars.specs.Utf8.{decode_at}
use Rattle.chunks.proofs.Walk.{code-end, code-bad}
use Rattle.chunks.specs.Upper.{uppercase, uppers}
use mathlib.Core.List.{List}
use lib.ListN.{length, drop}
use Prim.Native.Nat.{◌+◌, ◌-◌, ◌≤◌, ℕ}
use borrow.Author.Rules.{rules}
use native.Mathlib.Omega.{arith}
use mathlib.Core.Path.{sym, ap, ◌∙◌, refl, ◌≡◌}
use Rattle.chars.proofs.Laws.{OfChar, found, decode-same}
use Rattle.chunks.proofs.upper_each.Given as goal

-- what the buffer comes to with the upper case of the characters that are left, which still stand there
pub record Raised (buf₀ buf : List ℕ) (i : ℕ) : Type 0 where
  pub fill : Filling buf₀ 0 (uppercase buf₀) buf i (uppers (codes (drop i buf₀)))
  pub same : drop i buf ≡ drop i buf₀
  pub inside : i ≤ length buf₀

abbrev pub invariant-loop-code : goal.invariant-loop-code
invariant-loop-code l = Raised l.initial.buf l.buf l.i

abbrev pub decreases-loop-code : goal.decreases-loop-code
decreases-loop-code l = length l.initial.buf - l.i
