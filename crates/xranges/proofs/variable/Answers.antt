use Prim.Native.Nat.{◌-◌}
use native.Mathlib.Omega.{arith}
use mathlib.Core.Path.{◌≡◌}
use Rattle.xranges.proofs.variable.Goals as goal

pub returns-in-0 : goal.returns-in-0
returns-in-0 c = simp c.in-0.is

pub returns-in-1 : goal.returns-in-1
returns-in-1 c = simp c.in-1.is

pub returns-in-2 : goal.returns-in-2
returns-in-2 c = simp c.in-2.is

pub returns-in-3 : goal.returns-in-3
returns-in-3 c = simp c.in-3.is

pub returns-in_default : goal.returns-in_default
returns-in_default c = let e : 4 - c.args.sure ≡ 0 = omega arith in rw e
