use mathlib.Core.Path.{◌≡◌}
use lib.ListN.{drop}
use Rattle.hexes.specs.Hex.{all_digits}
use Rattle.hexes.proofs.all_digits.Given as goal

abbrev pub invariant-loop-i : goal.invariant-loop-i
invariant-loop-i l = all_digits (drop l.i l.line) ≡ all_digits l.line
