use mathlib.Core.Path.{◌≡◌}
use Prim.Native.Nat.{◌*◌}
use lib.Seq.{sets}
use lib.ListN.{drop}
use Rattle.chronology.specs.Entries.{listed}
use Rattle.chronology.specs.Store.{store, contents}
use Rattle.chronology.proofs.put_entries.Given as goal

abbrev pub invariant-loop-i : goal.invariant-loop-i
invariant-loop-i l =
    sets l.out (3 * l.i) (listed (drop l.i (contents (store l.count l.firsts l.lasts l.ids)))) ≡ sets l.initial.out 0 (listed (contents (store l.count l.firsts l.lasts l.ids)))
