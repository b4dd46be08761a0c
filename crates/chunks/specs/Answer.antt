-- What formatting a list answers, and what the lent buffer holds then.
use Rattle.std.specs.Prelude.{ℕ, ◌+◌, ◌*◌, Bool, List, ◌++◌, leb, length, drop, Result, Ok, Err}
use Rattle.chars.specs.Pick.{pick}
use Rattle.refusals.specs.declared.Kind.TheVariants.{NoRoom}
use Rattle.refusals.specs.Refusal.{file_span, refusal}
use Rattle.refusals.specs.declared.Refusal.{Refusal}
use Rattle.chunks.specs.Chunks.{chunks_of}
use Rattle.chunks.specs.Check.{checked}
use Rattle.chunks.specs.Format.{formatted}
use Rattle.chunks.specs.Upper.{uppercase}

-- the text that is asked for: formatted, in upper case or as it is
unfoldable pub text_of : Bool → List ℕ → List ℕ → List ℕ
text_of upper b table = pick upper (uppercase (formatted b table)) (formatted b table)

-- the room that formatting asks for: the bytes, and two dollar signs for each chunk. No formatted text is longer
unfoldable pub room_of : List ℕ → List ℕ → ℕ
room_of b table = length b + 2 * length (chunks_of table)

-- a fault, or that there is no room, or the text's length
unfoldable pub answered : Result (Unit {0}) Refusal → Bool → ℕ → Result ℕ Refusal
answered (Err e) room n = Err e
answered (Ok tt) room n = pick room (Ok n) (Err (refusal NoRoom (file_span 0 0)))

-- faults come before NoRoom, and room is judged by what a list may need, not by its text
unfoldable pub format_answer : Bool → List ℕ → List ℕ → List ℕ → Result ℕ Refusal
format_answer upper b table buf = answered (checked b table) (leb (room_of b table) (length buf)) (length (text_of upper b table))

-- the buffer afterwards: the text at its front and the bytes behind it as they were; after a refusal nothing has changed
unfoldable pub buffer_after : Result ℕ Refusal → List ℕ → List ℕ → List ℕ
buffer_after (Ok n) text buf = text ++ drop (length text) buf
buffer_after (Err e) text buf = buf
