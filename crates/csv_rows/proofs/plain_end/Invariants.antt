use mathlib.Core.Path.{◌≡◌}
use Prim.Native.Nat.{◌+◌}
use lib.ListN.{drop}
use Rattle.csv_rows.specs.Reader.{is_special, up_to}
use Rattle.csv_rows.proofs.plain_end.Given as goal

abbrev pub invariant-loop-i : goal.invariant-loop-i
invariant-loop-i l = l.i + up_to (is_special l.sep) (drop l.i l.s) ≡ l.at + up_to (is_special l.sep) (drop l.at l.s)
