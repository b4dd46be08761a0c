-- What the private functions of this crate ask of a list and a buffer. No public contract rests on it.
use Rattle.std.specs.Prelude.{ℕ, ◌≤◌, ◌≡◌, true, List, length, Ok}
use Rattle.chunks.specs.Lent.{Lent, Optional, Three}
use Rattle.chunks.specs.Chunks.{is_short}
use Rattle.chunks.specs.Check.{checked}
use Rattle.chunks.specs.Answer.{room_of}

-- a list without a fault, and room for its text
pub record Readable (b table : List ℕ) (room : ℕ) : Type 0 where
  -- no fault is found
  pub clean : checked b table ≡ (Ok tt)
  -- within the limits the buffer has the room that formatting asks for
  pub roomy : is_short b table ≡ true → room_of b table ≤ room

-- a list whose text goes into an array of 64 bytes
pub record Small (b table : List ℕ) : Type 0 where
  -- its bytes
  pub few_bytes : length b ≤ 56
  -- and up to two more for each of four chunks
  pub few_chunks : length table ≤ 16

-- a list that may be absent: readable if it is present
abbrev pub ReadableIf : Optional → ℕ → Type 0
ReadableIf o room = o.present ≡ true → Readable o.list.bytes o.list.table room

-- each list that is looked at
pub record AllReadable (t : Three) (room : ℕ) : Type 0 where
  -- the year list
  pub year : Readable t.year.bytes t.year.table room
  -- the month list
  pub month : ReadableIf t.month room
  -- the day list beside a month list
  pub day : t.month.present ≡ true → ReadableIf t.day room

-- the same of a short one
abbrev pub SmallIf : Optional → Type 0
SmallIf o = o.present ≡ true → Small o.list.bytes o.list.table

-- each list that is present is short
pub record AllSmall (t : Three) : Type 0 where
  -- the year list
  pub year : Small t.year.bytes t.year.table
  -- the month list
  pub month : SmallIf t.month
  -- the day list
  pub day : SmallIf t.day
