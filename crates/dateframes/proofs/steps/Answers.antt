use Prim.Native.Nat.{◌≤◌}
use native.Mathlib.Omega.{arith}
use lib.ListN.{length}
use Rattle.frames.specs.Frame.{line_answer}
use Rattle.lines.proofs.Unique.{goes_on}
use Rattle.lines.proofs.Ways.{frames-way}
use Rattle.lines.proofs.Onwards.{onward-none, onward-step, onward-over, stays-in}
use Rattle.dateframes.proofs.Stops.{went_on, no_stop}
use Rattle.dateframes.proofs.steps.Goals as goal

pub loop-good-init : goal.loop-good-init
loop-good-init g c = (omega arith, onward-none line_answer 16384 c.args.block.now c.args.long)

pub overflow_add-at : goal.overflow_add-at
overflow_add-at g c = omega (arith, stays-in c.args.block.now c.loop-good.at c.step-t.ensures c.loop-good.invariant.0)

pub loop-good-smaller : goal.loop-good-smaller
loop-good-smaller g c =
    let fit : 147 ≤ length c.loop-good.out = omega arith in
    let some = (goes_on frames-way fit c.step-t.ensures (went_on c.step-t.result.full c.flush-good.result c.if-t-good.true)).0 in
    omega (arith, stays-in c.args.block.now c.loop-good.at c.step-t.ensures c.loop-good.invariant.0)

pub loop-good-preserved : goal.loop-good-preserved
loop-good-preserved g c =
    let b = c.args.block.now in
    (stays-in b c.loop-good.at c.step-t.ensures c.loop-good.invariant.0, onward-step b c.loop-good.at c.step-t.ensures c.loop-good.invariant.1)

pub returns-in-loop-good : goal.returns-in-loop-good
returns-in-loop-good g c =
    let b = c.args.block.now in
    record {
      from_in_bounds = stays-in b c.loop-good.at c.step-t.ensures c.loop-good.invariant.0;
      onward = onward-step b c.loop-good.at c.step-t.ensures c.loop-good.invariant.1;
      no_feed = λ good. onward-over b c.loop-good.at c.step-t.ensures (no_stop c.step-t.result.full c.flush-good.result c.if-t-good.false good);
    }
