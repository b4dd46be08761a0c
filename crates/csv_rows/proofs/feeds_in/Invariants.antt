use mathlib.Core.Path.{◌≡◌}
use Prim.Native.Nat.{◌+◌, ◌≤◌}
use lib.ListN.{drop}
use Rattle.csv_rows.specs.Bytes.{feeds}
use Rattle.csv_rows.proofs.feeds_in.Given as goal

abbrev pub invariant-loop-i : goal.invariant-loop-i
invariant-loop-i l = (l.n + feeds (drop (l.at + l.i) l.s) ≡ feeds (drop l.at l.s)) × (l.n ≤ l.i)
