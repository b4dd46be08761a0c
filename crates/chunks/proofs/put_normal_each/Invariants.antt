use Rattle.chars.specs.declared.Decoded.TheVariants.{Char}
use Rattle.chunks.specs.Characters.{codes}
use Rattle.chunks.proofs.Fill.{fill_start, fill_end, Filling, fill-put}
use Rattle.chunks.proofs.Walk.{code-bad, code-char, code-end}
use Rattle.chunks.proofs.Room.{one-short}
use Rattle.chars.proofs.Laws.{OfChar, found}
use Rattle.chunks.specs.Format.{last_white, normal, one_out}
use Rattle.chars.specs.Utf8.{decode_at}
use mathlib.Core.Path.{◌≡◌, refl, sym, ◌∙◌}
use mathlib.Core.List.{List, ◌∷◌}
use Prim.Native.Nat.{ℕ, ◌+◌, ◌-◌, ◌≤◌}
use native.Mathlib.Omega.{arith}
use borrow.Author.Rules.{rules}
use lib.ListN.{length, drop}
use Rattle.chunks.proofs.put_normal_each.Given as goal

abbrev pub invariant-loop-code : goal.invariant-loop-code
invariant-loop-code l =
    Filling l.initial.buf l.n (normal l.white (codes l.t)) l.buf l.m (normal l.w (codes (drop l.i l.t)))
    × (last_white l.w (codes (drop l.i l.t)) ≡ last_white l.white (codes l.t))
    × (l.m + (length l.t - l.i) ≤ length l.buf)

abbrev pub decreases-loop-code : goal.decreases-loop-code
decreases-loop-code l = length l.t - l.i
