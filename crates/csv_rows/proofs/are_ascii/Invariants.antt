use mathlib.Core.Path.{◌≡◌}
use mathlib.Core.Bool.{true}
use Prim.Native.Nat.{◌+◌}
use Rattle.csv_rows.specs.Bytes.{utf8_end}
use Rattle.csv_rows.specs.Scans.{SameEnd}
use Rattle.csv_rows.proofs.are_ascii.Given as goal

abbrev pub invariant-loop-i : goal.invariant-loop-i
invariant-loop-i l = l.all ≡ true → SameEnd utf8_end l.s l.at (l.at + l.i)
