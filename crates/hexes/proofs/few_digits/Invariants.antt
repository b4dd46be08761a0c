use mathlib.Core.Path.{◌≡◌}
use mathlib.Core.Bool.{◌&&◌}
use lib.ListN.{drop}
use Rattle.hexes.specs.Hex.{all_digits}
use Rattle.hexes.proofs.few_digits.Given as goal

abbrev pub invariant-loop-b : goal.invariant-loop-b
invariant-loop-b l = l.all && all_digits (drop l.b-index l.line) ≡ all_digits l.line
