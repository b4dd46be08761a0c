use Rattle.chunks.specs.Check.{fault_of}
use Rattle.chunks.proofs.Turn.{Standing}
use Rattle.chunks.specs.Chunks.{chunks_of}
use mathlib.Core.List.{List}
use lib.ListN.{drop}
use Prim.Native.Nat.{ℕ, ◌*◌}
use mathlib.Core.Path.{◌≡◌}
use Rattle.chunks.proofs.ChunksRef.is_latin.Given as goal

-- between the chunks: the first fault from here is the list's
pub record InChunks (bytes table : List ℕ) (at k : ℕ) : Type 0 where
  pub same : fault_of at (drop at bytes) (chunks_of (drop k table)) ≡ fault_of 0 bytes (chunks_of table)
  pub stands : Standing bytes table at k

abbrev pub invariant-loop-k : goal.invariant-loop-k
invariant-loop-k l = InChunks l.self.bytes.now l.self.table.now l.at (4 * l.k)
