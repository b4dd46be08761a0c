use mathlib.Core.Path.{◌≡◌}
use Prim.Native.Nat.{◌+◌}
use lib.ListN.{drop}
use Rattle.headers.specs.Names.{spaces}
use Rattle.headers.proofs.behind_spaces.Given as goal

abbrev pub invariant-loop-i : goal.invariant-loop-i
invariant-loop-i l = l.i + spaces (drop l.i l.s) ≡ l.at + spaces (drop l.at l.s)
