use mathlib.Core.Path.{◌≡◌}
use mathlib.Core.Bool.{◌&&◌}
use lib.ListN.{drop}
use Rattle.chunks.specs.Latin.{all_latin}
use Rattle.chunks.proofs.all_latin.Given as goal

abbrev pub invariant-loop-b : goal.invariant-loop-b
invariant-loop-b l = (l.ok && all_latin l.p (drop l.b-index l.t)) ≡ all_latin 0 l.t
