use mathlib.Core.Path.{◌≡◌}
use mathlib.Core.Bool.{true}
use mathlib.Core.List.{List}
use Prim.Native.Nat.{ℕ, ◌-◌, ◌<◌}
use lib.ListN.{length, get_or}
use Rattle.numbers.proofs.is_trim.Given as goal

-- the last byte prints, and those looked at are ASCII
abbrev pub Looked : List ℕ → ℕ → Type 0
Looked s i = (0x20 < get_or s (length s - 1) 0) × ((j : ℕ) → j < i → get_or s j 0 < 0x80)

abbrev pub invariant-loop-b : goal.invariant-loop-b
invariant-loop-b l = l.ok ≡ true → Looked l.s l.b-index
