use Rattle.datefield.specs.Text.{first_of}
use mathlib.Core.Path.{◌≡◌}
use lib.ListN.{drop}
use Prim.Native.Nat.{◌+◌}
use Rattle.verdicts.proofs.find.Given as goal

abbrev pub invariant-loop-i : goal.invariant-loop-i
invariant-loop-i l = l.i + first_of l.b (drop l.i l.s) ≡ first_of l.b l.s
