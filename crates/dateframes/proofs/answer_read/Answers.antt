use Prim.Native.Nat.{◌+◌}
use native.Mathlib.Omega.{arith}
use lib.ListN.{length-take}
use Rattle.dateframes.proofs.Blocks.{left-onward, left-free, read-onward}
use Rattle.dateframes.proofs.answer_read.Goals as goal

pub overflow_sub-state : goal.overflow_sub-state
overflow_sub-state g c = omega (arith, simp length-take at c.steps-d.ensures.from_in_bounds)

pub returns : goal.returns
returns g c =
    let a = c.args in
    let n = a.have + a.count in
    let d = c.steps-d.result in
    let e = c.steps-d.ensures in
    record {
      onward = read-onward a.buf.now a.have a.count (left-onward a.buf.now _ n d.from (omega arith) e.from_in_bounds c.move_down.ensures e.onward);
      no_feed = λ more. left-free a.buf.now _ n d.from (omega arith) e.from_in_bounds c.move_down.ensures (e.no_feed more);
    }
