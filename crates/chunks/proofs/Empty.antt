-- The empty list is admitted: it has no fault, an empty text, and the span 0, 0.
-- Assumes nothing.
use mathlib.Core.Path.{◌≡◌, refl}
use mathlib.Core.Bool.{Bool, true, false}
use mathlib.Core.List.{List, []}
use Prim.Native.Nat.{ℕ, zero-le}
use borrow.Author.Tests.{le-leb}
use lib.ListN.{length}
use Rattle.chars.specs.Pick.{pick}
use Rattle.refusals.specs.Refusal.{file_span}
use Rattle.std.specs.Prelude.{Ok}
use Rattle.chunks.specs.Characters.{up_to, characters, codes_of, codes}
use Rattle.chunks.specs.Chunks.{chunks_of, kinds_known, lengths, fits, is_short, span_of}
use Rattle.chunks.specs.Check.{fault_of, checked}
use Rattle.chunks.specs.Format.{chunks_out, formatted}
use Rattle.chunks.specs.Upper.{uppers, uppercase}
use Rattle.chunks.specs.Answer.{text_of, room_of, answered, format_answer, buffer_after}

-- it has no fault
pub empty-clean : checked [] [] ≡ (Ok tt)
unfolding checked fits is_short chunks_of kinds_known lengths fault_of pick
empty-clean = refl

-- its text is empty, in upper case too
pub empty-text : (upper : Bool) → text_of upper [] [] ≡ []
unfolding text_of formatted chunks_out chunks_of uppercase uppers codes codes_of characters up_to pick
empty-text true = refl
empty-text false = refl

-- every buffer has room for it
pub empty-answer : (upper : Bool) (buf : List ℕ) → format_answer upper [] [] buf ≡ Ok 0
unfolding format_answer answered room_of chunks_of pick
empty-answer upper buf = rw (empty-clean, le-leb 0 (length buf) zero-le, empty-text upper)

-- and stays as it is
pub empty-stored : (upper : Bool) (buf : List ℕ) → buffer_after (format_answer upper [] [] buf) (text_of upper [] []) buf ≡ buf
unfolding buffer_after
empty-stored upper buf = rw (empty-answer upper buf, empty-text upper)

-- its span is 0, 0
pub empty-span : span_of (chunks_of []) ≡ file_span 0 0
unfolding span_of chunks_of
empty-span = refl
