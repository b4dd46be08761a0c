use Prim.Native.Nat.{◌+◌, ◌<◌}
use native.Mathlib.Omega.{arith}
use Rattle.runs.proofs.Onwards.{onward-none}
use Rattle.datecheck.proofs.Taking.{goes, went-waits, went-full, went-ends}
use Rattle.datecheck.proofs.steps.Goals as goal

pub loop-bytes-init : goal.loop-bytes-init
loop-bytes-init c = (omega arith, (omega arith, onward-none c.args.last c.args.block.now c.args.state))

pub returns-in-More : goal.returns-in-More
returns-in-More c =
    let m = c.loop-bytes in
    let v = m.invariant in
    let s = c.step in
    let w = went-waits c.args.block.now m.out m.at m.put v.0 v.1.0 c.args.last s.ensures.value s.ensures.out_after (omega arith) (omega arith) v.1.1 c.in-More.is in
    let t = c.stopped.ensures in
    record {
      from_in_bounds = rw (t.0, t.1.0) (v.0, w.0);
      went = rw (t.0, t.1.0, t.1.1.0, t.1.1.1) w.1;
    }

pub returns-in-NoRoom : goal.returns-in-NoRoom
returns-in-NoRoom c =
    let m = c.loop-bytes in
    let v = m.invariant in
    let s = c.step in
    let w = went-full c.args.block.now m.out m.at m.put v.0 v.1.0 c.args.last s.ensures.value s.ensures.out_after (omega arith) (omega arith) v.1.1 in
    let t = c.stopped-in-NoRoom.ensures in
    record {
      from_in_bounds = rw (t.0, t.1.0) (v.0, w.0);
      went = rw (t.0, t.1.0, t.1.1.0, t.1.1.1) w.1;
    }

pub overflow_add-at : goal.overflow_add-at
overflow_add-at c =
    let m = c.loop-bytes in
    let v = m.invariant in
    let s = c.step in
    let w = goes c.args.block.now m.out m.at m.put v.0 v.1.0 c.args.last s.ensures.value s.ensures.out_after (omega arith) (omega arith) v.1.1 c.in-Took.is in
    omega (arith, w.0.1)

pub overflow_add-put : goal.overflow_add-put
overflow_add-put c =
    let m = c.loop-bytes in
    let v = m.invariant in
    let s = c.step in
    let w = goes c.args.block.now m.out m.at m.put v.0 v.1.0 c.args.last s.ensures.value s.ensures.out_after (omega arith) (omega arith) v.1.1 c.in-Took.is in
    let k : m.put + c.in-Took.n < 18446744073709551616 = omega (arith, w.1.0) in
    record { fits = k }

pub loop-bytes-smaller : goal.loop-bytes-smaller
loop-bytes-smaller c =
    let m = c.loop-bytes in
    let v = m.invariant in
    let s = c.step in
    let w = goes c.args.block.now m.out m.at m.put v.0 v.1.0 c.args.last s.ensures.value s.ensures.out_after (omega arith) (omega arith) v.1.1 c.in-Took.is in
    omega (arith, w.0.0, w.0.1)

pub loop-bytes-preserved : goal.loop-bytes-preserved
loop-bytes-preserved c =
    let m = c.loop-bytes in
    let v = m.invariant in
    let s = c.step in
    let w = goes c.args.block.now m.out m.at m.put v.0 v.1.0 c.args.last s.ensures.value s.ensures.out_after (omega arith) (omega arith) v.1.1 c.in-Took.is in
    (w.0.1, (w.1.1.0, w.1.1.1))

pub overflow_add-put-in-Over : goal.overflow_add-put-in-Over
overflow_add-put-in-Over c =
    let m = c.loop-bytes in
    let v = m.invariant in
    let s = c.step in
    let w = went-ends c.args.block.now m.out m.at m.put v.0 v.1.0 c.args.last s.ensures.value s.ensures.out_after (omega arith) (omega arith) v.1.1 c.in-Over.is in
    omega (arith, w.0)

pub returns-in-Over : goal.returns-in-Over
returns-in-Over c =
    let m = c.loop-bytes in
    let v = m.invariant in
    let s = c.step in
    let w = went-ends c.args.block.now m.out m.at m.put v.0 v.1.0 c.args.last s.ensures.value s.ensures.out_after (omega arith) (omega arith) v.1.1 c.in-Over.is in
    let t = c.stopped-in-Over.ensures in
    record {
      from_in_bounds = rw (t.0, t.1.0) (v.0, w.0);
      went = rw (t.0, t.1.0, t.1.1.0, t.1.1.1) w.1;
    }
