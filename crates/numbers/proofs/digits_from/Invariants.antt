use Rattle.numbers.specs.Parse.{digits_from, whole_value}
use lib.ListN.{drop}
use Prim.Native.Nat.{◌≤◌}
use mathlib.Core.Path.{◌≡◌}
use Rattle.numbers.proofs.digits_from.Given as goal

abbrev pub invariant-loop-b : goal.invariant-loop-b
invariant-loop-b l = (whole_value l.top l.value (drop l.b-index (drop l.at l.s)) ≡ digits_from l.top l.s l.at) × (l.value ≤ l.top)
