use mathlib.Core.Path.{◌≡◌}
use Prim.Native.Nat.{◌+◌, ◌≤◌}
use lib.ListN.{length}
use Rattle.numbers.specs.Trim.{trim_from}
use Rattle.numbers.proofs.trim_some.Given as goal

abbrev pub invariant-loop : goal.invariant-loop
invariant-loop l = (trim_from l.s l.i ≡ trim_from l.s l.at) × (l.at + l.counter ≤ l.i) × (l.i ≤ length l.s)
