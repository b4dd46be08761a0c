use mathlib.Core.Path.{◌≡◌}
use mathlib.Core.Bool.{◌&&◌}
use Prim.Native.Nat.{◌*◌}
use lib.ListN.{drop}
use Rattle.chunks.specs.Chunks.{chunks_of, no_math}
use Rattle.chunks.proofs.no_math.Given as goal

-- what the kinds so far and those that are left say is what all of them say
abbrev pub invariant-loop-k : goal.invariant-loop-k
invariant-loop-k l = (l.ok && no_math (chunks_of (drop (4 * l.k) l.table))) ≡ no_math (chunks_of l.table)
