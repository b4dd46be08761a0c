use mathlib.Core.Path.{◌≡◌}
use mathlib.Core.Bool.{◌&&◌}
use lib.ListN.{drop}
use Rattle.chunks.specs.Plain.{all_unbroken}
use Rattle.chunks.proofs.all_unbroken.Given as goal

abbrev pub invariant-loop-b : goal.invariant-loop-b
invariant-loop-b l = (l.ok && all_unbroken (drop l.b-index l.t)) ≡ all_unbroken l.t
