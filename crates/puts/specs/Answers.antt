-- What the writers answer, and what they leave in the lent buffer.
use Rattle.std.specs.Prelude.{ℕ, ◌+◌, ◌≤◌, ◌<◌, ◌≡◌, Bool, List, ◌++◌, ◌↔◌, leb, length, drop, Result, Ok, Err}
use Rattle.std.proofs.lemmas.List.Edits.{sets}
use Rattle.chars.specs.Pick.{pick}
use Rattle.refusals.specs.declared.Kind.TheVariants.{RustPanics, NoRoom}
use Rattle.refusals.specs.declared.Refusal.{Refusal}
use Rattle.refusals.specs.Refusal.{nowhere}

-- the length of a text, or RustPanics where the Rust has none
unfoldable pub measured : Bool → List ℕ → Result ℕ Refusal
measured panics text = pick panics (Err (nowhere RustPanics)) (Ok (length text))

-- the answer to a text of that measure with so much room: NoRoom exactly if the room is shorter than the text
unfoldable pub decided : Result ℕ Refusal → ℕ → Result ℕ Refusal
decided (Ok n) room = pick (leb n room) (Ok n) (Err (nowhere NoRoom))
decided (Err e) room = Err e

-- the answer of a writer: RustPanics first, then NoRoom, else the text's length
unfoldable pub answer : Bool → List ℕ → ℕ → Result ℕ Refusal
answer panics text room = decided (measured panics text) room

-- the buffer after an answer: the text at its front and what was behind it, or, after a refusal, all as it was
unfoldable pub left : Result ℕ Refusal → List ℕ → List ℕ → List ℕ
left (Ok n) text out = text ++ drop (length text) out
left (Err e) text out = out

-- the buffer after the answer of a writer
unfoldable pub afterwards : Bool → List ℕ → List ℕ → List ℕ
afterwards panics text out = left (answer panics text (length out)) text out

-- a text was put at a place of a buffer: the place behind it is given, and all other bytes are as they were
pub record Put (text before : List ℕ) (at : ℕ) (after : List ℕ) (next : ℕ) : Type 0 where
  -- the next place is behind the text
  pub behind : next ≡ at + length text
  -- the buffer has the text at the place, and what it had before elsewhere
  pub bytes : after ≡ sets before at text

-- a text was put where there was room for it; where there was none, nothing was
pub record Tried (text before : List ℕ) (at : ℕ) (after : List ℕ) (next : ℕ) : Type 0 where
  -- with room for the text
  pub put : at + length text ≤ length before → Put text before at after next
  -- without it all is as it was
  pub not_put : length before < at + length text → (after ≡ before) × (next ≡ at)

-- what a length call tells of a writer: m is what it says, w what the writer answers with so much room
pub record Foretold (m : Result ℕ Refusal) (w : ℕ → Result ℕ Refusal) : Type 0 where
  -- the writer stores n bytes exactly if the length is n and there is room for them
  pub stores : (n room : ℕ) → (w room ≡ Ok n) ↔ ((m ≡ Ok n) × (n ≤ room))
  -- it refuses NoRoom exactly if there is a length, and the room is shorter
  pub no_room : (room : ℕ) → (w room ≡ Err (nowhere NoRoom)) ↔ ((n : ℕ) × (m ≡ Ok n) × (room < n))
  -- apart from NoRoom it refuses exactly what the length call refuses, whatever the room
  pub refuses : (e : Refusal) (room : ℕ) → ((w room ≡ Err e) × (e ≡ nowhere NoRoom → ⊥)) ↔ (m ≡ Err e)
