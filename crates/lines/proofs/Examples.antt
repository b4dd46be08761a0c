-- Streams with their answers. Assumes nothing.
use mathlib.Core.Path.{◌≡◌, refl}
use mathlib.Core.List.{List, [], ◌∷◌, ◌++◌}
use Prim.Native.Nat.{ℕ}
use Rattle.chars.specs.Pick.{pick}
use Rattle.chars.specs.Ascii.{ascii}
use Rattle.refusals.specs.Refusal.{refusal}
use Rattle.hexes.specs.Hex.{is_hex, all_digits}
use Rattle.answers.specs.Answer.{answer_line, refused_bytes, hex_text, glyph}
use Rattle.frames.specs.Frame.{asked, formed, frame_read, line_by, frame_answer, line_answer}
use Rattle.lines.specs.Lines.{lines_from, rest_from, answers_to, last_answer, answers_of}

-- a line answered by itself in brackets
abbrev bracketed : List ℕ → List ℕ
bracketed line = ascii "[" ++ (line ++ ascii "]")

-- nothing is read, and nothing is written
pub empty : answers_of bracketed [] ≡ []
unfolding answers_of answers_to last_answer lines_from rest_from pick
empty = refl

-- a line feed alone is an empty line
pub feed : answers_of bracketed (10 ∷ []) ≡ ascii "[]"
unfolding answers_of answers_to last_answer lines_from rest_from pick
feed = refl

-- two lines, of which the second ends in a carriage return, and a rest
pub two-and-rest : answers_of bracketed (ascii "ab" ++ (10 ∷ (ascii "c" ++ (13 ∷ 10 ∷ ascii "def")))) ≡ ascii "[ab][c" ++ (13 ∷ ascii "][def]")
unfolding answers_of answers_to last_answer lines_from rest_from pick
two-and-rest = refl

-- a stream that ends in a line feed has no last line
pub whole-lines : answers_of bracketed (ascii "a" ++ (10 ∷ 10 ∷ [])) ≡ ascii "[a][]"
unfolding answers_of answers_to last_answer lines_from rest_from pick
whole-lines = refl

-- an empty line is no frame
pub no-frame : answers_of line_answer (10 ∷ []) ≡ ascii "0e00000000000000000000000000000000" ++ (10 ∷ [])
unfolding answers_of answers_to last_answer lines_from rest_from pick line_answer frame_answer line_by is_hex all_digits frame_read asked formed refusal answer_line refused_bytes hex_text glyph
no-frame = refl
