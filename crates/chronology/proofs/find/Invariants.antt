use mathlib.Core.Path.{◌≡◌}
use Prim.Native.Nat.{◌+◌}
use lib.ListN.{take, drop}
use Rattle.chronology.specs.Store.{index_of}
use Rattle.chronology.proofs.find.Given as goal

abbrev pub invariant-loop-i : goal.invariant-loop-i
invariant-loop-i l = l.from + index_of l.id (drop l.from (take l.count l.ids)) ≡ l.i + index_of l.id (drop l.i (take l.count l.ids))
