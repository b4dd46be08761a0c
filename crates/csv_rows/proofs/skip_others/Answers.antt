use Prim.Native.Nat.{◌+◌, ◌-◌}
use lib.ListN.{length}
use Rattle.csv_rows.specs.Reader.{equal, up_to}
use Rattle.csv_rows.specs.Scans.{SameEnd}
use Rattle.csv_rows.proofs.Laws.{same_here, same_more}
use native.Mathlib.Omega.{arith}
use Rattle.csv_rows.proofs.skip_others.Goals as goal

pub loop-i-init : goal.loop-i-init
loop-i-init c = let a = c.args in same_here (up_to (equal a.c)) a.s.now a.at (omega arith)

pub returns-then-has_byte : goal.returns-then-has_byte
returns-then-has_byte c = c.loop-i.invariant

pub loop-i-preserved : goal.loop-i-preserved
loop-i-preserved c =
    let a = c.args in
    same_more (up_to (equal a.c)) a.s.now a.at c.loop-i.i (c.loop-i.i + 32) c.loop-i.invariant (c.has_byte.ensures c.if-has_byte.false)

pub returns : goal.returns
returns c = c.loop-i.invariant
