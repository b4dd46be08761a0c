use Prim.Native.Nat.{◌+◌, ◌-◌, ◌≤◌, ◌<◌}
use lib.ListN.{length}
use Rattle.csv_rows.specs.Bytes.{utf8_end}
use Rattle.csv_rows.specs.Scans.{SameEnd}
use Rattle.csv_rows.proofs.Laws.{same_here, same_more}
use Rattle.csv_rows.proofs.Utf8.{step-inside, some, utf8-step, utf8-stop}
use borrow.Author.Rules.{rules}
use native.Mathlib.Omega.{arith}
use Rattle.csv_rows.proofs.utf8_end.Given as goal

abbrev pub invariant-loop-i : goal.invariant-loop-i
invariant-loop-i l = SameEnd utf8_end l.s 0 l.i

abbrev pub decreases-loop-i : goal.decreases-loop-i
decreases-loop-i l = length l.s - l.i
