use mathlib.Core.Path.{◌≡◌}
use mathlib.Core.Bool.{true}
use lib.ListN.{length, take, drop}
use Rattle.chronology.specs.Entries.{well_kept}
use Rattle.chronology.specs.Store.{store, contents}
use Rattle.chronology.specs.Inside.{Marked}
use Rattle.chronology.proofs.well_kept.Given as goal

abbrev pub invariant-loop-i : goal.invariant-loop-i
invariant-loop-i l =
    (well_kept (drop l.i (contents (store l.count l.firsts l.lasts l.ids))) ≡ true) × Marked l.marks (drop l.i (take l.count l.ids)) × (length l.marks ≡ 4096)
