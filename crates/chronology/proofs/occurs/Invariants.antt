use mathlib.Core.Path.{◌≡◌}
use mathlib.Core.Bool.{◌||◌}
use lib.ListN.{take, drop}
use Rattle.chronology.specs.Entries.{among}
use Rattle.chronology.proofs.occurs.Given as goal

abbrev pub invariant-loop-i : goal.invariant-loop-i
invariant-loop-i l = l.found || among l.id (drop l.i (take l.count l.ids)) ≡ among l.id (drop l.from (take l.count l.ids))
