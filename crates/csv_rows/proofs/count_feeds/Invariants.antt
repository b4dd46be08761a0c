use mathlib.Core.Path.{◌≡◌}
use Prim.Native.Nat.{◌+◌, ◌-◌, ◌≤◌, ◌%◌}
use lib.ListN.{drop}
use Rattle.csv_rows.specs.Bytes.{feeds}
use Rattle.csv_rows.proofs.count_feeds.Given as goal

abbrev pub invariant-loop-i : goal.invariant-loop-i
invariant-loop-i l = (l.n + feeds (drop l.i l.s) ≡ feeds l.s) × (l.n ≤ l.i) × (l.i ≤ l.end) × ((l.end - l.i) % 64 ≡ 0)
