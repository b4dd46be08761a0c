use mathlib.Core.Path.{◌≡◌}
use mathlib.Core.Bool.{true}
use mathlib.Core.List.{List}
use Prim.Native.Nat.{ℕ, ◌+◌}
use lib.ListN.{drop}
use Rattle.datefield.specs.Text.{first_of}
use Rattle.datefield.proofs.lacks.Given as goal

-- the place of the first b from a place on
abbrev pub from : ℕ → List ℕ → ℕ → ℕ
from b s i = i + first_of b (drop i s)

abbrev pub invariant-loop-i : goal.invariant-loop-i
invariant-loop-i l = l.ok ≡ true → from l.b l.s (l.at + l.i) ≡ from l.b l.s l.at
