use mathlib.Core.Path.{◌≡◌}
use mathlib.Core.Bool.{◌&&◌}
use lib.ListN.{drop}
use Rattle.chunks.specs.Latin.{none_odd}
use Rattle.chunks.proofs.none_odd.Given as goal

abbrev pub invariant-loop-b : goal.invariant-loop-b
invariant-loop-b l = (l.ok && none_odd l.p (drop l.b-index l.t)) ≡ none_odd 0 l.t
