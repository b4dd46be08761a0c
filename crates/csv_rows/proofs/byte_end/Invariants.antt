use mathlib.Core.Path.{◌≡◌}
use Prim.Native.Nat.{◌+◌}
use lib.ListN.{drop}
use Rattle.csv_rows.specs.Reader.{equal, up_to}
use Rattle.csv_rows.proofs.byte_end.Given as goal

abbrev pub invariant-loop-i : goal.invariant-loop-i
invariant-loop-i l = l.i + up_to (equal l.c) (drop l.i l.s) ≡ l.at + up_to (equal l.c) (drop l.at l.s)
