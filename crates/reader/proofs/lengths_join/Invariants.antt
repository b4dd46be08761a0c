use Rattle.chunks.specs.Chunks.{chunks_of}
use Rattle.reader.proofs.Joins.{joins_in}
use lib.ListN.{drop}
use Prim.Native.Nat.{◌*◌}
use mathlib.Core.Path.{◌≡◌}
use Rattle.reader.proofs.lengths_join.Given as goal

-- what is left of the bytes is the sum of the lengths that are left, if that is so from the start
abbrev pub invariant-loop-k : goal.invariant-loop-k
invariant-loop-k l = joins_in l.left (chunks_of (drop (4 * l.k) l.table)) ≡ joins_in l.bytes (chunks_of l.table)
