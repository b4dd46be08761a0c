use mathlib.Core.Path.{sym, ◌∙◌}
use Prim.Native.Nat.{◌-◌, ◌≤◌, ◌<◌}
use native.Mathlib.Omega.{arith}
use lib.ListN.{length}
use Rattle.numbers.proofs.Trims.{step_fits, trim-go}
use Rattle.numbers.proofs.trim_some.Goals as goal
use Rattle.numbers.proofs.trim_some.Goals.{Else-n-eq0}

-- what a step knows: it is not 0, and lies within the text
fits : (c : Else-n-eq0) → (0 < c.trim_quick-n.result) × (c.trim_quick-n.result ≤ length c.args.s.now - c.loop.i)
fits c = omega (arith, step_fits c.args.s.now c.loop.i)

pub overflow_add-i : goal.overflow_add-i
overflow_add-i c = omega (arith, fits (goal.at.overflow_add-i c).Else-n-eq0)

pub loop-preserved : goal.loop-preserved
loop-preserved c =
    let f = fits (goal.at.loop-preserved c).Else-n-eq0 in
    (rw c.trim_quick-n.ensures (sym (trim-go _ _ (omega arith)) ∙ c.loop.invariant.0), omega arith, omega arith)
