use mathlib.Core.Path.{◌≡◌}
use Prim.Native.Nat.{◌+◌}
use lib.ListN.{drop}
use Rattle.chronology.specs.Store.{store, contents, first_where}
use Rattle.chronology.specs.Asked.{stops}
use Rattle.chronology.proofs.stop_at.Given as goal

abbrev pub invariant-loop-i : goal.invariant-loop-i
invariant-loop-i l =
    first_where (stops l.period) (contents (store l.count l.firsts l.lasts l.ids)) ≡ l.i + first_where (stops l.period) (drop l.i (contents (store l.count l.firsts l.lasts l.ids)))
