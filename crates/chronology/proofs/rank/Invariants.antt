use mathlib.Core.Path.{◌≡◌}
use mathlib.Core.Bool.{not}
use Prim.Native.Nat.{◌+◌}
use lib.ListN.{drop}
use Rattle.chronology.specs.Entries.{precedes}
use Rattle.chronology.specs.Store.{store, contents, first_where}
use Rattle.chronology.proofs.rank.Given as goal

abbrev pub invariant-loop-i : goal.invariant-loop-i
invariant-loop-i l =
    first_where (λ x. not (precedes x l.e)) (contents (store l.count l.firsts l.lasts l.ids)) ≡ l.i + first_where (λ x. not (precedes x l.e)) (drop l.i (contents (store l.count l.firsts l.lasts l.ids)))
