use mathlib.Core.Path.{◌≡◌, sym, ◌∙◌}
use Prim.Native.Nat.{suc, ◌+◌}
use native.Mathlib.Omega.{arith}
use Rattle.hexes.proofs.Laws.{and_assoc, and-true, next_is, none_left}
use Rattle.hexes.proofs.few_digits.Goals as goal

pub loop-b-preserved : goal.loop-b-preserved
loop-b-preserved c =
    let i = c.loop-b.b-index in
    let e : i + 1 ≡ suc i = omega arith in
    and_assoc c.loop-b.all c.is_digit-all.result _ ∙ rw (c.is_digit-all.ensures, e, ← next_is c.args.line.now i c.loop-b-test.true) c.loop-b.invariant

pub returns : goal.returns
returns c =
    sym (sym c.loop-b.invariant ∙ rw (none_left c.args.line.now c.loop-b.b-index c.loop-b-test.false) (and-true c.loop-b.all))
