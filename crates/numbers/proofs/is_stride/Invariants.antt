use mathlib.Core.Path.{◌≡◌}
use mathlib.Core.Bool.{true}
use mathlib.Core.List.{List}
use Prim.Native.Nat.{ℕ, ◌+◌, ◌<◌}
use lib.ListN.{get_or}
use Rattle.numbers.proofs.is_stride.Given as goal

-- the last byte prints, and those looked at are ASCII
abbrev pub Looked : List ℕ → ℕ → ℕ → Type 0
Looked s at i = (0x20 < get_or s (at + 15) 0) × ((j : ℕ) → j < i → get_or s (at + j) 0 < 0x80)

abbrev pub invariant-loop-i : goal.invariant-loop-i
invariant-loop-i l = l.ok ≡ true → Looked l.s l.at l.i
