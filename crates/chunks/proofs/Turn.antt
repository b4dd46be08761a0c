-- Where a loop over the chunks of a list stands: at a byte of the lent bytes and at a number of the table. What each turn knows.
-- Assumes nothing.
use mathlib.Core.Path.{◌≡◌}
use mathlib.Core.Bool.{Bool, true}
use mathlib.Core.List.{List, ◌++◌}
use Prim.Native.Nat.{ℕ, ◌+◌, ◌-◌, ◌%◌, ◌≤◌, ◌<◌}
use native.Mathlib.Nat.{add-sub_cancel_left}
use native.Mathlib.Omega.{arith}
use lib.ListN.{length, get_or, take, drop, length-take, length-drop}
use lib.Seq.{drop-drop}
use Rattle.chunks.specs.Characters.{characters}
use Rattle.chunks.specs.Chunks.{chunks_of, lengths, fits}
use Rattle.chunks.specs.Check.{fault_in, or_else, fault_of}
use Rattle.chunks.specs.Format.{chunk_out, chunk_flag, chunks_out}
use Rattle.chunks.proofs.Tables.{chunks-at, of-fits}

pub record Standing (bytes table : List ℕ) (at k : ℕ) : Type 0 where
  pub sum : at + lengths (chunks_of (drop k table)) ≡ length bytes
  pub fours : (length table - k) % 4 ≡ 0
  pub inside : k ≤ length table

pub standing-start : (bytes table : List ℕ) → fits bytes table ≡ true → Standing bytes table 0 0
standing-start bytes table e =
    let f = of-fits bytes table e in
    record { sum = omega (arith, f.sum); fours = omega (arith, f.fours); inside = omega arith }

module _ {bytes table : List ℕ} {at k : ℕ} (s : Standing bytes table at k) (h : k < length table) where
  -- the four numbers of the chunk are there
  pub whole : k + 3 < length table
  whole = omega (arith, s.fours, s.inside)

  -- its bytes too
  pub sums : at + (get_or table (k + 1) 0 + lengths (chunks_of (drop (k + 4) table))) ≡ length bytes
  unfolding lengths
  sums = rw (chunks-at table k whole) at s.sum

  -- the slice that is lent for it has its length
  pub text-length : length (take (at + get_or table (k + 1) 0 - at) (drop at bytes)) ≡ get_or table (k + 1) 0
  text-length = simp (add-sub_cancel_left, length-take, length-drop) (omega (arith, sums))

  -- the next turn
  pub standing_on : Standing bytes table (at + get_or table (k + 1) 0) (k + 4)
  standing_on = record { sum = omega (arith, sums); fours = omega (arith, whole, s.fours); inside = omega (arith, whole) }

  -- what the chunk's fault means for the list
  pub fault-turn : or_else (fault_in at (characters (take (at + get_or table (k + 1) 0 - at) (drop at bytes)))) (fault_of (at + get_or table (k + 1) 0) (drop (at + get_or table (k + 1) 0) bytes) (chunks_of (drop (k + 4) table))) ≡ fault_of at (drop at bytes) (chunks_of (drop k table))
  unfolding fault_of
  fault-turn = rw (chunks-at table k whole, drop-drop, add-sub_cancel_left)

  -- what the chunk puts out, and the list behind it
  pub out-turn : (w : Bool) → chunks_out w (drop at bytes) (chunks_of (drop k table)) ≡ chunk_out w (get_or table k 0) (take (at + get_or table (k + 1) 0 - at) (drop at bytes)) ++ chunks_out (chunk_flag w (get_or table k 0) (take (at + get_or table (k + 1) 0 - at) (drop at bytes))) (drop (at + get_or table (k + 1) 0) bytes) (chunks_of (drop (k + 4) table))
  unfolding chunks_out
  out-turn w = rw (chunks-at table k whole, drop-drop, add-sub_cancel_left)
