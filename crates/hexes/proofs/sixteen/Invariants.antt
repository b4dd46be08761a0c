use mathlib.Core.Path.{◌≡◌}
use Prim.Native.Nat.{ℕ, ◌+◌, ◌<◌}
use lib.ListN.{length, get_or}
use Rattle.hexes.proofs.Laws.{byte_at}
use Rattle.hexes.proofs.sixteen.Given as goal

abbrev pub invariant-loop-i : goal.invariant-loop-i
invariant-loop-i l = ((k : ℕ) → k < l.i → get_or l.bytes k 0 ≡ byte_at l.line (l.at + k)) × (length l.bytes ≡ 16)
