use Rattle.chunks.proofs.Fill.{Filling}
use Rattle.chunks.specs.Format.{chunks_out, formatted}
use Rattle.chunks.specs.Chunks.{chunks_of}
use Rattle.chunks.proofs.Turn.{Standing}
use Rattle.std.specs.Prelude.{Ok}
use Rattle.chunks.specs.Check.{fault_of}
use mathlib.Core.Bool.{Bool}
use mathlib.Core.List.{List}
use lib.ListN.{length, drop}
use Prim.Native.Nat.{◌+◌, ◌-◌, ◌*◌, ◌≤◌, ℕ}
use mathlib.Core.Path.{◌≡◌}
use Rattle.chunks.proofs.ChunksRef.put_list.Given as goal

-- what the buffer comes to with the chunks that are left, where the loop stands, and the room for them
pub record Listed (bytes table buf₀ buf : List ℕ) (at k n : ℕ) (w : Bool) : Type 0 where
  pub fill : Filling buf₀ 0 (formatted bytes table) buf n (chunks_out w (drop at bytes) (chunks_of (drop k table)))
  pub stands : Standing bytes table at k
  pub clean : fault_of at (drop at bytes) (chunks_of (drop k table)) ≡ (Ok tt)
  pub room : n + (length bytes - at) + 2 * length (chunks_of (drop k table)) ≤ length buf

abbrev pub invariant-loop-k : goal.invariant-loop-k
invariant-loop-k l = Listed l.self.bytes.now l.self.table.now l.initial.buf l.buf l.at (4 * l.k) l.n l.w
