use Prim.Native.Nat.{◌+◌, ◌-◌}
use lib.ListN.{length}
use Rattle.csv_rows.specs.Bytes.{utf8_end}
use Rattle.csv_rows.specs.Scans.{SameEnd}
use Rattle.csv_rows.proofs.Laws.{same_here, same_more}
use native.Mathlib.Omega.{arith}
use Rattle.csv_rows.proofs.skip_ascii.Goals as goal

pub loop-i-init : goal.loop-i-init
loop-i-init c = let a = c.args in same_here utf8_end a.s.now a.at (omega arith)

pub loop-i-preserved : goal.loop-i-preserved
loop-i-preserved c =
    let a = c.args in
    same_more utf8_end a.s.now a.at c.loop-i.i (c.loop-i.i + 32) c.loop-i.invariant (c.are_ascii.ensures c.if-are_ascii.true)

pub returns-else-are_ascii : goal.returns-else-are_ascii
returns-else-are_ascii c = c.loop-i.invariant

pub returns : goal.returns
returns c = c.loop-i.invariant
