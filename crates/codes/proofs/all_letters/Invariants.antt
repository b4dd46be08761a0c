use mathlib.Core.Path.{◌≡◌}
use mathlib.Core.Bool.{◌&&◌}
use lib.ListN.{drop}
use Rattle.codes.specs.Parts.{are_letters}
use Rattle.codes.proofs.all_letters.Given as goal

abbrev pub invariant-loop-b : goal.invariant-loop-b
invariant-loop-b l = (l.ok && are_letters (drop l.b-index l.t)) ≡ are_letters l.t
