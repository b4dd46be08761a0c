use native.Mathlib.Omega.{arith}
use Prim.Native.Nat.{◌+◌, ◌-◌}
use lib.ListN.{length}
use Rattle.csv_rows.specs.Reader.{is_special, up_to}
use Rattle.csv_rows.specs.Scans.{SameEnd}
use Rattle.csv_rows.proofs.Laws.{same_here, same_more}
use Rattle.csv_rows.proofs.skip_plain.Goals as goal

pub loop-i-init : goal.loop-i-init
loop-i-init c = same_here (up_to (is_special c.args.sep)) c.args.s.now c.args.at (omega arith)

pub returns-then-has_special : goal.returns-then-has_special
returns-then-has_special c = c.loop-i.invariant

pub loop-i-preserved : goal.loop-i-preserved
loop-i-preserved c =
    let a = c.args in
    same_more (up_to (is_special a.sep)) a.s.now a.at c.loop-i.i (c.loop-i.i + 16) c.loop-i.invariant (c.has_special.ensures c.if-has_special.false)

pub returns : goal.returns
returns c = c.loop-i.invariant
