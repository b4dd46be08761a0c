use native.Mathlib.Omega.{arith}
use mathlib.Core.Path.{◌≡◌, sym, ap, ◌∙◌}
use mathlib.Core.Bool.{Bool, ◌&&◌, and-true, and_assoc}
use Prim.Native.Nat.{◌+◌, ◌*◌}
use Rattle.chunks.proofs.Standing.{math-step, math-all}
use Rattle.chunks.proofs.no_math.Goals as goal

pub loop-k-preserved : goal.loop-k-preserved
loop-k-preserved c =
    let l = c.loop-k in
    let next : 4 * (l.k + 1) ≡ 4 * l.k + 4 = omega arith in
    rw next (and_assoc l.ok _ _ ∙ ap (λ (r : Bool). l.ok && r) (sym (math-step c.args.table.now (4 * l.k) (omega arith))) ∙ l.invariant)

pub returns : goal.returns
returns c =
    let l = c.loop-k in
    sym (and-true l.ok) ∙ ap (λ (r : Bool). l.ok && r) (sym (math-all c.args.table.now (4 * l.k) (omega (arith, c.requires)))) ∙ l.invariant
