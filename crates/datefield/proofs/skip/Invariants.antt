use mathlib.Core.Path.{◌≡◌}
use Prim.Native.Nat.{◌+◌, ◌*◌}
use lib.ListN.{drop}
use Rattle.datefield.specs.Text.{first_of}
use Rattle.datefield.proofs.skip.Given as goal

abbrev pub invariant-loop-k : goal.invariant-loop-k
invariant-loop-k l = 16 * l.k + first_of l.b (drop (16 * l.k) l.s) ≡ first_of l.b l.s
