-- `chunks::put_normal_each` meets its contract. The invariant: what is still to be put, put from here on, gives what all of it gives from the start.
-- The measure is what is left of the text. Assumes nothing.
use Rattle.chars.specs.declared.Decoded.TheVariants.{Char}
use Rattle.chunks.specs.Characters.{codes}
use Rattle.chunks.proofs.Fill.{fill_start, fill_end, fill-put}
use Rattle.chunks.proofs.Walk.{code-char, code-over}
use Rattle.chunks.proofs.Room.{one-short}
use Rattle.chars.proofs.Laws.{OfChar, found}
use Rattle.chunks.specs.Format.{last_white, normal, one_out}
use Rattle.chars.specs.Utf8.{decode_at}
use mathlib.Core.Path.{◌≡◌, refl, sym, ◌∙◌}
use mathlib.Core.List.{List, ◌∷◌}
use Prim.Native.Nat.{ℕ, ◌+◌, ◌≤◌}
use native.Mathlib.Omega.{arith}
use lib.ListN.{length, drop}
use Rattle.chunks.proofs.put_normal_each.Goals as goal
use Rattle.chunks.proofs.put_normal_each.Goals.{In-Char}

-- where a character was found: what it is, and how long what it puts out is
module _ (c : In-Char) where
  abbrev t : List ℕ
  t = c.args.t.now

  abbrev i : ℕ
  i = c.loop-code.i

  abbrev code : ℕ
  code = c.in-Char.code

  abbrev len : ℕ
  len = c.in-Char.len

  is-char : decode_at t i ≡ Char code len
  is-char = sym c.decode_at.ensures ∙ c.in-Char.is

  sees : OfChar t i code len
  sees = found t i is-char

  out-short : length (one_out c.loop-code.w code) ≤ len
  out-short = one-short _ code len sees.some sees.long

  codes-on : codes (drop i t) ≡ code ∷ codes (drop (i + len) t)
  codes-on = code-char t i is-char

pub loop-code-init : goal.loop-code-init
loop-code-init c = (fill_start _ _ _, refl, omega arith)

pub put_one-p-requires : goal.put_one-p-requires
put_one-p-requires c = ((sees (goal.at.put_one-p-requires c).In-Char).below, omega (arith, out-short (goal.at.put_one-p-requires c).In-Char, (sees (goal.at.put_one-p-requires c).In-Char).inside, c.loop-code.invariant.2))

pub overflow_add-i : goal.overflow_add-i
overflow_add-i c = omega (arith, (sees (goal.at.overflow_add-i c).In-Char).inside, (sees (goal.at.overflow_add-i c).In-Char).some)

pub loop-code-smaller : goal.loop-code-smaller
loop-code-smaller c = omega (arith, (sees (goal.at.loop-code-smaller c).In-Char).inside, (sees (goal.at.loop-code-smaller c).In-Char).some)

pub loop-code-preserved : goal.loop-code-preserved
unfolding normal last_white
loop-code-preserved c =
    let v = c.loop-code.invariant in
    let e = c.put_one-p.ensures in (
      rw e.1 (fill-put (one_out _ (code (goal.at.loop-code-preserved c).In-Char)) (rw (codes-on (goal.at.loop-code-preserved c).In-Char) at v.0) e.0 e.2),
      rw e.1 (rw (codes-on (goal.at.loop-code-preserved c).In-Char) at v.1),
      omega (arith, out-short (goal.at.loop-code-preserved c).In-Char, (sees (goal.at.loop-code-preserved c).In-Char).inside, (sees (goal.at.loop-code-preserved c).In-Char).some, v.2, e.0, c.put_one-p.auto.buf),
    )

pub returns : goal.returns
unfolding normal last_white
returns c =
    let v = c.loop-code.invariant in
    let e = code-over _ _ (rw c.decode_at.ensures at c.in_default.not-Char) in
    (fill_end (rw e at v.0), rw e at v.1, (rw e at v.0).same)
