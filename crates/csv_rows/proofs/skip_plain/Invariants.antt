use native.Mathlib.Omega.{arith}
use Prim.Native.Nat.{◌+◌, ◌-◌}
use lib.ListN.{length}
use Rattle.csv_rows.specs.Reader.{is_special, up_to}
use Rattle.csv_rows.specs.Scans.{SameEnd}
use Rattle.csv_rows.proofs.Laws.{same_here, same_more}
use Rattle.csv_rows.proofs.skip_plain.Given as goal

abbrev pub invariant-loop-i : goal.invariant-loop-i
invariant-loop-i l = SameEnd (up_to (is_special l.sep)) l.s l.at l.i

abbrev pub decreases-loop-i : goal.decreases-loop-i
decreases-loop-i l = length l.s - l.i
