use Rattle.fields.specs.Names.{same_letters}
use lib.ListN.{drop}
use mathlib.Core.Path.{◌≡◌}
use Rattle.fields.proofs.same_letters.Given as goal

abbrev pub invariant-loop-i : goal.invariant-loop-i
invariant-loop-i l = same_letters (drop l.i l.name) (drop l.i l.t) ≡ same_letters l.name l.t
