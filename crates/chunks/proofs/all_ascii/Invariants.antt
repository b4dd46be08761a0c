use mathlib.Core.Path.{◌≡◌}
use mathlib.Core.Bool.{◌&&◌}
use lib.ListN.{drop}
use Rattle.chunks.specs.Plain.{all_ascii}
use Rattle.chunks.proofs.all_ascii.Given as goal

abbrev pub invariant-loop-b : goal.invariant-loop-b
invariant-loop-b l = (l.ok && all_ascii (drop l.b-index l.t)) ≡ all_ascii l.t
