use mathlib.Core.Path.{◌≡◌}
use mathlib.Core.Bool.{◌&&◌}
use Prim.Native.Nat.{◌+◌}
use lib.ListN.{drop}
use Rattle.hexes.specs.Hex.{all_digits}
use Rattle.hexes.proofs.are_digits.Given as goal

abbrev pub invariant-loop-i : goal.invariant-loop-i
invariant-loop-i l = l.all && all_digits (drop (l.at + l.i) l.line) ≡ all_digits (drop l.at l.line)
