use mathlib.Core.Path.{◌≡◌}
use Prim.Native.Nat.{◌-◌}
use Rattle.headers.specs.Columns.{column_from}
use Rattle.headers.specs.Tables.{cells_from}
use Rattle.headers.proofs.column_from.Given as goal

abbrev pub invariant-loop-i : goal.invariant-loop-i
invariant-loop-i l = column_from l.name l.i (cells_from l.s l.table l.i (l.count - l.i)) ≡ column_from l.name l.from (cells_from l.s l.table l.from (l.count - l.from))
