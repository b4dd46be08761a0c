use mathlib.Core.Path.{◌≡◌, refl, ◌∙◌}
use Prim.Native.Nat.{◌-◌, ◌≤◌}
use mathlib.Core.Bool.{false≢true}
use native.Mathlib.Omega.{arith}
use lib.ListN.{length}
use Rattle.numbers.specs.Trim.{trim_from, trim_end}
use Rattle.numbers.proofs.trim_strides.Goals as goal

pub loop-i-init : goal.loop-i-init
unfolding trim_end
loop-i-init c = (refl, omega arith)

pub loop-i-preserved-then-is_stride : goal.loop-i-preserved-then-is_stride
loop-i-preserved-then-is_stride c = (c.is_stride.ensures c.if-is_stride.true ∙ c.loop-i.invariant.0, omega arith)

pub trim_some-e-requires : goal.trim_some-e-requires
trim_some-e-requires c = c.loop-i.invariant.1

pub returns-then-e : goal.returns-then-e
returns-then-e c = let e = c.trim_some-e.ensures in (e.same ∙ c.loop-i.invariant.0, e.stops)

pub loop-i-smaller : goal.loop-i-smaller
loop-i-smaller c = let e = c.trim_some-e.ensures in omega (arith, e.inside, e.on c.if-e.false)

pub loop-i-preserved : goal.loop-i-preserved
loop-i-preserved c = let e = c.trim_some-e.ensures in (e.same ∙ c.loop-i.invariant.0, e.inside)

pub returns : goal.returns
returns c = (c.loop-i.invariant.0, λ e. absurd (false≢true e))
