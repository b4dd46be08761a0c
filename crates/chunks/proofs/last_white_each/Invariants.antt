use Rattle.chars.specs.declared.Decoded.TheVariants.{Char}
use Rattle.chunks.specs.Format.{last_white}
use Rattle.chars.specs.Utf8.{decode_at}
use Rattle.chunks.specs.Characters.{codes}
use Rattle.chars.proofs.Laws.{found, OfChar}
use Rattle.chunks.proofs.Walk.{code-char, code-end, code-bad}
use lib.ListN.{length, drop}
use borrow.Author.Rules.{rules}
use native.Mathlib.Omega.{arith}
use Prim.Native.Nat.{ℕ, ◌-◌}
use mathlib.Core.List.{List}
use mathlib.Core.Path.{◌≡◌, refl, sym, ◌∙◌}
use Rattle.chunks.proofs.last_white_each.Given as goal

abbrev pub invariant-loop-code : goal.invariant-loop-code
invariant-loop-code l = last_white l.w (codes (drop l.i l.t)) ≡ last_white l.white (codes l.t)

abbrev pub decreases-loop-code : goal.decreases-loop-code
decreases-loop-code l = length l.t - l.i
