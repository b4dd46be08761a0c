use Rattle.numbers.proofs.Trims.{step_fits, trim-go, trim-stop}
use Rattle.numbers.specs.Trim.{trim_from, trim_end}
use lib.ListN.{length}
use Prim.Native.Nat.{◌-◌, ◌≤◌, ◌<◌}
use borrow.Author.Rules.{rules}
use native.Mathlib.Omega.{arith}
use mathlib.Core.Path.{sym, ◌∙◌, ◌≡◌}
use Rattle.numbers.proofs.trim_end.Goals as goal
use Rattle.numbers.proofs.trim_end.Goals.{Else-n-eq0}

-- what a turn knows: the step is not 0, and lies within the text
fits : (c : Else-n-eq0) → (0 < c.trim_step-n.result) × (c.trim_step-n.result ≤ length c.args.s.now - c.loop-i.i)
fits c = omega (arith, step_fits c.args.s.now c.loop-i.i)

pub returns-then-is_trim : goal.returns-then-is_trim
returns-then-is_trim c = sym (c.is_trim.ensures c.if-is_trim.true)

pub returns-then-e : goal.returns-then-e
returns-then-e c = let e = c.trim_strides-e.ensures in sym (trim-stop _ _ (e.1 c.if-e.true)) ∙ e.0

pub loop-i-init : goal.loop-i-init
loop-i-init c = c.trim_strides-e.ensures.0

pub returns-then-n-eq0 : goal.returns-then-n-eq0
returns-then-n-eq0 c = sym (trim-stop _ _ (sym c.trim_step-n.ensures ∙ c.if-n-eq0.true)) ∙ c.loop-i.invariant

pub overflow_add-i : goal.overflow_add-i
overflow_add-i c = omega (arith, fits (goal.at.overflow_add-i c).Else-n-eq0)

pub loop-i-smaller : goal.loop-i-smaller
loop-i-smaller c = omega (arith, fits (goal.at.loop-i-smaller c).Else-n-eq0)

pub loop-i-preserved : goal.loop-i-preserved
loop-i-preserved c = rw c.trim_step-n.ensures (sym (trim-go _ _ (omega (arith, fits (goal.at.loop-i-preserved c).Else-n-eq0))) ∙ c.loop-i.invariant)
