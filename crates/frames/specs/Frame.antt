-- Frames: which reader a frame asks for, whether it is one, and what is read of it.
use Rattle.std.specs.Prelude.{ℕ, Bool, false, ◌&&◌, List, eqb, length, Result, Err}
use Rattle.chars.specs.Pick.{pick}
use Rattle.refusals.specs.declared.Kind.TheVariants.{BadFrame}
use Rattle.refusals.specs.Refusal.{file_span, refusal}
use Rattle.dates.specs.declared.Date.{Date}
use Rattle.refusals.specs.declared.Refusal.{Refusal}
use Rattle.hexes.specs.Hex.{is_hex, bytes_of}
use Rattle.reading_laws.specs.Field.{parsed, parsed_strict, parsed_level_one}
use Rattle.chunks.specs.Lent.{Optional, lent, optional, three}
use Rattle.reading_laws.specs.Fields.{three_fields}
use Rattle.answers.specs.Answer.{answer_line, level_line}
use Rattle.frames.specs.declared.Operation.{Operation}
use Rattle.frames.specs.declared.Operation.TheVariants.{Ported, Strict, LevelOne, ThreeFields, Unknown}
use Rattle.frames.specs.Lists.{byte_at, list_end, list_table, list_text, is_flag, has_list, optional_end, optional_table, optional_text}

-- the operations by their numbers: 01 and 02 the strict reader, 03 three fields, 04 the ported reader, 05 the reader of level one
unfoldable pub asked : ℕ → Operation
asked n =
    pick (eqb n 1) Strict (pick (eqb n 2) Strict (pick (eqb n 3) ThreeFields (pick (eqb n 4) Ported (pick (eqb n 5) LevelOne Unknown))))

-- the place of the month list: a flag, and perhaps a list
abbrev pub month_at : List ℕ → ℕ
month_at f = list_end f 1

-- the place of the day list likewise
abbrev pub day_at : List ℕ → ℕ
day_at f = optional_end f (month_at f)

-- the list at such a place
abbrev pub optional_at : List ℕ → ℕ → Optional
optional_at f at = optional (has_list f at) (optional_text f at) (optional_table f at)

-- whether one list fills a frame exactly
abbrev pub one_fills : List ℕ → Bool
one_fills f = eqb (list_end f 1) (length f)

-- whether three do, with their flags
unfoldable pub three_fill : List ℕ → Bool
three_fill f = is_flag f (month_at f) && (is_flag f (day_at f) && eqb (optional_end f (day_at f)) (length f))

-- whether a frame is one of its operation
unfoldable pub formed : Operation → List ℕ → Bool
formed Ported f = one_fills f
formed Strict f = one_fills f
formed LevelOne f = one_fills f
formed ThreeFields f = three_fill f
formed Unknown f = false

-- no frame
abbrev pub bad_frame : Result Date Refusal
bad_frame = Err (refusal BadFrame (file_span 0 0))

-- what the reader says of the lists
unfoldable pub read_of : Operation → List ℕ → Result Date Refusal
read_of Ported f = parsed (list_text f 1) (list_table f 1)
read_of Strict f = parsed_strict (list_text f 1) (list_table f 1)
read_of LevelOne f = parsed_level_one (list_text f 1) (list_table f 1)
read_of ThreeFields f =
    three_fields (three (lent (list_text f 1) (list_table f 1)) (optional_at f (month_at f)) (optional_at f (day_at f)))
read_of Unknown f = bad_frame

-- the operation of a frame is its first byte; what is no frame is refused before all else
unfoldable pub frame_read : List ℕ → Result Date Refusal
frame_read f = pick (formed (asked (byte_at f 0)) f) (read_of (asked (byte_at f 0)) f) bad_frame

-- a line: two digits a byte, at most 8,192 bytes. An empty line has no operation
unfoldable pub line_read : List ℕ → Result Date Refusal
line_read line = pick (is_hex line 8192) (frame_read (bytes_of line)) bad_frame

-- the line of what was read, by the operation: 05 has a line of its own
unfoldable pub line_by : Operation → Result Date Refusal → List ℕ
line_by Ported r = answer_line r
line_by Strict r = answer_line r
line_by LevelOne r = level_line r
line_by ThreeFields r = answer_line r
line_by Unknown r = answer_line r

-- the answer to a frame
unfoldable pub frame_answer : List ℕ → List ℕ
frame_answer f = line_by (asked (byte_at f 0)) (frame_read f)

-- the answer to a line
unfoldable pub line_answer : List ℕ → List ℕ
line_answer line = pick (is_hex line 8192) (frame_answer (bytes_of line)) (answer_line bad_frame)
