use mathlib.Core.Path.{◌≡◌, ◌∙◌}
use Prim.Native.Nat.{suc, ◌+◌}
use native.Mathlib.Omega.{arith}
use Rattle.hexes.proofs.Laws.{and_assoc, next_is}
use Rattle.hexes.proofs.are_digits.Goals as goal

pub loop-i-preserved : goal.loop-i-preserved
loop-i-preserved c =
    let k = c.args.at + c.loop-i.i in
    let e : c.args.at + (c.loop-i.i + 1) ≡ suc k = omega arith in
    and_assoc c.loop-i.all c.is_digit-all.result _ ∙ rw (c.is_digit-all.ensures, e, ← next_is c.args.line.now k (omega arith)) c.loop-i.invariant
