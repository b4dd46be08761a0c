use native.Mathlib.Omega.{arith}
use Prim.Native.Nat.{◌+◌, ◌-◌, ◌≤◌}
use lib.ListN.{length}
use borrow.Author.Rules.{rules}
use Rattle.csv_rows.proofs.Copying.{Copying, copy_start, step-bounds, copy_step, copy-end}
use Rattle.csv_rows.proofs.copy_in.Goals as goal

inside : (c : goal.After-text_step-k) → (1 ≤ c.text_step-k.result) × (c.loop-i.i + c.text_step-k.result ≤ length c.args.raw.now)
inside c = step-bounds c.args.raw.now c.loop-i.i c.text_step-k.result c.loop-i-test.true c.text_step-k.ensures

pub loop-i-init : goal.loop-i-init
loop-i-init c = copy_start _ _

pub overflow_add-i : goal.overflow_add-i
overflow_add-i c = let h = inside c in omega arith

pub loop-i-smaller : goal.loop-i-smaller
loop-i-smaller c = let h = inside c in omega arith

pub loop-i-preserved : goal.loop-i-preserved
loop-i-preserved c =
    copy_step c.args.raw.now c.loop-i.i c.text_step-k.result c.loop-i-test.true c.text_step-k.ensures c.loop-i.invariant

pub shape_of-out : goal.shape_of-out
shape_of-out c = c.loop-i.invariant.long

pub returns : goal.returns
returns c = let both = copy-end c.args.raw.now c.loop-i.i c.loop-i-test.false c.loop-i.invariant in record { value = both.0; out_after = both.1 }
