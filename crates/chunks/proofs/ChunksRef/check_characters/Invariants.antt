use Rattle.refusals.specs.declared.Refusal.{Refusal}
use Rattle.std.specs.Prelude.{Result, Ok}
use Rattle.chunks.specs.Characters.{characters}
use Rattle.chunks.specs.Check.{fault_in, fault_of}
use Rattle.chunks.proofs.Turn.{Standing}
use Rattle.chunks.specs.Chunks.{chunks_of}
use mathlib.Core.List.{List}
use lib.ListN.{length, drop}
use Prim.Native.Nat.{◌+◌, ◌-◌, ◌≤◌, ℕ, ◌*◌}
use mathlib.Core.Path.{◌≡◌}
use Rattle.chunks.proofs.ChunksRef.check_characters.Given as goal

-- in a chunk: no fault so far, and the first one from here is the first one from the chunk's start
pub record InCharacters (at : ℕ) (t : List ℕ) (found : Result (Unit {0}) Refusal) (i : ℕ) : Type 0 where
  pub none : found ≡ (Ok tt)
  pub same : fault_in (at + i) (characters (drop i t)) ≡ fault_in at (characters t)
  pub inside : i ≤ length t

-- between the chunks: no fault so far, and the first one from here is the list's
pub record InChunks (bytes table : List ℕ) (at k : ℕ) (found : Result (Unit {0}) Refusal) : Type 0 where
  pub none : found ≡ (Ok tt)
  pub same : fault_of at (drop at bytes) (chunks_of (drop k table)) ≡ fault_of 0 bytes (chunks_of table)
  pub stands : Standing bytes table at k

abbrev pub invariant-characters : goal.invariant-characters
invariant-characters l = InCharacters l.at l.t l.found l.i

abbrev pub decreases-characters : goal.decreases-characters
decreases-characters l = length l.t - l.i

abbrev pub invariant-chunks : goal.invariant-chunks
invariant-chunks l = InChunks l.self.bytes.now l.self.table.now l.at (4 * l.k) l.found
