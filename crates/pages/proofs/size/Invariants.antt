use Rattle.chunks.specs.Chunks.{chunks_of, lengths}
use lib.ListN.{drop}
use Prim.Native.Nat.{◌+◌, ◌*◌}
use mathlib.Core.Path.{◌≡◌}
use Rattle.pages.proofs.size.Given as goal

-- what was added up and what is left
abbrev pub invariant-loop-k : goal.invariant-loop-k
invariant-loop-k l = l.sum + lengths (chunks_of (drop (4 * l.k) l.table)) ≡ lengths (chunks_of l.table)
