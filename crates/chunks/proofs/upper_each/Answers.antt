use Rattle.chunks.proofs.Cased.{raise-fill, raise-same}
use Rattle.chars.specs.declared.Decoded.TheVariants.{Char}
use Rattle.chunks.proofs.Fill.{fill_start}
use Rattle.chunks.proofs.Room.{upper_long}
use Rattle.chars.specs.Utf8.{decode_at}
use Rattle.chunks.proofs.Walk.{code-over}
use Rattle.chunks.specs.Upper.{uppercase, uppers}
use mathlib.Core.List.{List}
use Prim.Native.Nat.{◌+◌, ℕ}
use native.Mathlib.Omega.{arith}
use mathlib.Core.Path.{sym, ap, ◌∙◌, refl, ◌≡◌}
use Rattle.chars.proofs.Laws.{OfChar, found, decode-same}
use Rattle.chunks.proofs.upper_each.Invariants.{Raised}
use Rattle.chunks.proofs.upper_each.Goals as goal
use Rattle.chunks.proofs.upper_each.Goals.{In-Char}

-- where a character was found
module _ (c : In-Char) where
  abbrev buf₀ : List ℕ
  buf₀ = c.args.buf.now

  abbrev buf : List ℕ
  buf = c.loop-code.buf

  abbrev i : ℕ
  i = c.loop-code.i

  abbrev v : Raised buf₀ buf i
  v = c.loop-code.invariant

  abbrev code : ℕ
  code = c.in-Char.code

  abbrev len : ℕ
  len = c.in-Char.len

  is-char : decode_at buf₀ i ≡ Char code len
  is-char = sym (decode-same buf buf₀ i i v.same) ∙ sym c.decode_at.ensures ∙ c.in-Char.is

  sees : OfChar buf₀ i code len
  sees = found buf₀ i is-char

pub loop-code-init : goal.loop-code-init
unfolding uppercase
loop-code-init c = record { fill = fill_start _ _ _; same = refl; inside = omega arith }

pub put_upper-i-requires : goal.put_upper-i-requires
put_upper-i-requires c =
    ((sees (goal.at.put_upper-i-requires c).In-Char).below, omega (arith, upper_long (code (goal.at.put_upper-i-requires c).In-Char), (sees (goal.at.put_upper-i-requires c).In-Char).long, (sees (goal.at.put_upper-i-requires c).In-Char).inside, (v (goal.at.put_upper-i-requires c).In-Char).inside, (v (goal.at.put_upper-i-requires c).In-Char).fill.long))

pub loop-code-smaller : goal.loop-code-smaller
loop-code-smaller c =
    omega (arith, c.put_upper-i.ensures.0, upper_long (code (goal.at.loop-code-smaller c).In-Char), (sees (goal.at.loop-code-smaller c).In-Char).long, (sees (goal.at.loop-code-smaller c).In-Char).some, (sees (goal.at.loop-code-smaller c).In-Char).inside, (v (goal.at.loop-code-smaller c).In-Char).inside)

pub loop-code-preserved : goal.loop-code-preserved
loop-code-preserved c =
    let e = c.put_upper-i.ensures in
    let n = upper_long (code (goal.at.loop-code-preserved c).In-Char) ∙ (sees (goal.at.loop-code-preserved c).In-Char).long in
    let next = e.0 ∙ ap (λ (m : ℕ). i (goal.at.loop-code-preserved c).In-Char + m) n in
    record {
      fill = raise-fill (buf₀ (goal.at.loop-code-preserved c).In-Char) (buf (goal.at.loop-code-preserved c).In-Char) _ (i (goal.at.loop-code-preserved c).In-Char) (code (goal.at.loop-code-preserved c).In-Char) (len (goal.at.loop-code-preserved c).In-Char) _ e.0 e.1 n (v (goal.at.loop-code-preserved c).In-Char).fill (is-char (goal.at.loop-code-preserved c).In-Char);
      same = raise-same (buf₀ (goal.at.loop-code-preserved c).In-Char) (buf (goal.at.loop-code-preserved c).In-Char) _ (i (goal.at.loop-code-preserved c).In-Char) (code (goal.at.loop-code-preserved c).In-Char) (len (goal.at.loop-code-preserved c).In-Char) _ e.0 e.1 n (v (goal.at.loop-code-preserved c).In-Char).same (omega (arith, (sees (goal.at.loop-code-preserved c).In-Char).inside, (v (goal.at.loop-code-preserved c).In-Char).inside, (v (goal.at.loop-code-preserved c).In-Char).fill.long));
      inside = omega (arith, next, (sees (goal.at.loop-code-preserved c).In-Char).inside, (v (goal.at.loop-code-preserved c).In-Char).inside);
    }

pub returns : goal.returns
unfolding uppers
returns c =
    let w = c.loop-code.invariant in
    let b0 = c.args.buf.now in
    let same : c.decode_at.result ≡ decode_at b0 c.loop-code.i = c.decode_at.ensures ∙ decode-same c.loop-code.buf b0 _ _ w.same in
    (rw (code-over b0 c.loop-code.i (rw same at c.in_default.not-Char)) at w.fill).same
