use Rattle.chars.specs.declared.Decoded.TheVariants.{Char}
use Rattle.chunks.specs.Format.{last_white}
use Rattle.chars.specs.Utf8.{decode_at}
use Rattle.chars.proofs.Laws.{found, OfChar}
use Rattle.chunks.proofs.Walk.{code-char, code-over}
use native.Mathlib.Omega.{arith}
use Prim.Native.Nat.{ℕ}
use mathlib.Core.List.{List}
use mathlib.Core.Path.{◌≡◌, refl, sym, ◌∙◌}
use Rattle.chunks.proofs.last_white_each.Goals as goal
use Rattle.chunks.proofs.last_white_each.Goals.{In-Char}

-- where a character was found: what it is
module _ (c : In-Char) where
  abbrev t : List ℕ
  t = c.args.t.now

  abbrev i : ℕ
  i = c.loop-code.i

  is-char : decode_at t i ≡ Char c.in-Char.code c.in-Char.len
  is-char = sym c.decode_at.ensures ∙ c.in-Char.is

  sees : OfChar t i c.in-Char.code c.in-Char.len
  sees = found t i is-char

pub loop-code-init : goal.loop-code-init
loop-code-init c = refl

pub overflow_add-i : goal.overflow_add-i
overflow_add-i c = omega (arith, (sees (goal.at.overflow_add-i c).In-Char).inside, (sees (goal.at.overflow_add-i c).In-Char).some)

pub loop-code-smaller : goal.loop-code-smaller
loop-code-smaller c = omega (arith, (sees (goal.at.loop-code-smaller c).In-Char).inside, (sees (goal.at.loop-code-smaller c).In-Char).some)

pub loop-code-preserved : goal.loop-code-preserved
unfolding last_white
loop-code-preserved c = rw c.is_whitespace-w.ensures (rw (code-char _ _ (is-char (goal.at.loop-code-preserved c).In-Char)) at c.loop-code.invariant)

pub returns : goal.returns
unfolding last_white
returns c = rw (code-over _ _ (rw c.decode_at.ensures at c.in_default.not-Char)) at c.loop-code.invariant
