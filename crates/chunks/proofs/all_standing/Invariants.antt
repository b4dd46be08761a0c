use mathlib.Core.Path.{◌≡◌}
use mathlib.Core.Bool.{◌&&◌}
use lib.ListN.{drop}
use Rattle.chunks.specs.Standing.{all_standing}
use Rattle.chunks.proofs.all_standing.Given as goal

abbrev pub invariant-loop-b : goal.invariant-loop-b
invariant-loop-b l = (l.ok && all_standing l.upper (drop l.b-index l.t)) ≡ all_standing l.upper l.t
