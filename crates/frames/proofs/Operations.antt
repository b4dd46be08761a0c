-- Operation 05 has a reader and a line of its own; every other operation answers as before. Assumes nothing.
use mathlib.Core.Path.{◌≡◌, refl, sym, ap, ◌∙◌}
use mathlib.Core.Bool.{Bool, true, false, false≢true}
use mathlib.Core.List.{List}
use Prim.Native.Nat.{ℕ}
use lib.Dec.{eqb}
use borrow.Author.Tests.{ne_eqb}
use Rattle.chars.specs.Pick.{pick}
use Rattle.chars.proofs.Cases.{by-test, of_test}
use Rattle.dates.specs.declared.Date.{Date}
use Rattle.dates.specs.Value.{any_season}
use Rattle.refusals.specs.declared.Refusal.{Refusal}
use Rattle.std.specs.Prelude.{Result, Ok, Err}
use Rattle.hexes.specs.Hex.{is_hex, bytes_of}
use Rattle.reading_laws.specs.Field.{parsed_level_one}
use Rattle.roundtrip_laws.proofs.Seasons.{ported-none, strict_none, three-none}
use Rattle.answers.specs.Answer.{answer_line, level_line}
use Rattle.answers.proofs.Lines.{former-line}
use Rattle.frames.specs.declared.Operation.{Operation}
use Rattle.frames.specs.declared.Operation.TheVariants.{Ported, Strict, LevelOne, ThreeFields, Unknown}
use Rattle.frames.specs.Lists.{byte_at, list_text, list_table}
use Rattle.frames.specs.Room.{operation_of}
use Rattle.frames.specs.Frame.{asked, one_fills, formed, bad_frame, read_of, frame_read, line_read, line_by, frame_answer, line_answer}
use Rattle.frames.specs.Answers.{former_line}

-- whether an operation is that of level one
abbrev pub is_level : Operation → Bool
is_level Ported = false
is_level Strict = false
is_level LevelOne = true
is_level ThreeFields = false
is_level Unknown = false

-- 05 is that operation,
pub five-is : asked 5 ≡ LevelOne
unfolding asked pick
five-is = refl

-- and every other number asks for what it asked before
pub others-asked : (n : ℕ) → (n ≡ 5 → ⊥) → asked n ≡ pick (eqb n 1) Strict (pick (eqb n 2) Strict (pick (eqb n 3) ThreeFields (pick (eqb n 4) Ported Unknown)))
unfolding asked pick
others-asked n h = rw (ne_eqb n 5 h)

abbrev Other : Operation → Type 0
Other op = is_level op ≡ false

not-level : (n : ℕ) → (n ≡ 5 → ⊥) → is_level (asked n) ≡ false
not-level n h = ap is_level (others-asked n h) ∙ former
  where
    former : Other (pick (eqb n 1) Strict (pick (eqb n 2) Strict (pick (eqb n 3) ThreeFields (pick (eqb n 4) Ported Unknown))))
    former =
        by-test Other (eqb n 1) (λ _. refl) (λ _. by-test Other (eqb n 2) (λ _. refl) (λ _. by-test Other (eqb n 3) (λ _. refl) (λ _. by-test Other (eqb n 4) (λ _. refl) (λ _. refl))))

-- where no season is given the line is the former one
same_line : (r : Result Date Refusal) → ((d : Date) → r ≡ Ok d → any_season d.value ≡ false) → answer_line r ≡ former_line r
unfolding answer_line
same_line (Ok d) h = former-line d (h d refl)
same_line (Err e) h = refl

bad-line : answer_line bad_frame ≡ former_line bad_frame
unfolding answer_line
bad-line = refl

by-operation : (op : Operation) (f : List ℕ) → is_level op ≡ false → line_by op (read_of op f) ≡ former_line (read_of op f)
unfolding line_by read_of
by-operation Ported f h = same_line _ λ d e. ported-none _ _ e
by-operation Strict f h = same_line _ λ d e. strict_none _ _ e
by-operation LevelOne f h = absurd (false≢true (sym h))
by-operation ThreeFields f h = same_line _ λ d e. three-none _ e
by-operation Unknown f h = bad-line

bad-by : (op : Operation) → line_by op bad_frame ≡ former_line bad_frame
unfolding line_by answer_line level_line
bad-by Ported = refl
bad-by Strict = refl
bad-by LevelOne = refl
bad-by ThreeFields = refl
bad-by Unknown = refl

frame-before : (f : List ℕ) → (byte_at f 0 ≡ 5 → ⊥) → frame_answer f ≡ former_line (frame_read f)
unfolding frame_answer frame_read
frame-before f h =
    by-test (λ (r : Result Date Refusal). line_by (operation_of f) r ≡ former_line r) (formed (operation_of f) f)
    (λ _. by-operation (operation_of f) f (not-level (byte_at f 0) h)) (λ _. bad-by (operation_of f))

-- the answer to a line, if it is no frame of operation 05: byte for byte the former one
pub as_before : (line : List ℕ) → (is_hex line 8192 ≡ true → byte_at (bytes_of line) 0 ≡ 5 → ⊥) → line_answer line ≡ former_line (line_read line)
unfolding line_answer line_read pick
as_before line h =
    of_test (is_hex line 8192) (λ q. rw q (frame-before (bytes_of line) (h q))) (λ q. rw q bad-line)

-- and to a frame of 05: what the reader of level one says of its list, on that reader's line
pub by-level-one : (line : List ℕ) → is_hex line 8192 ≡ true → byte_at (bytes_of line) 0 ≡ 5 → one_fills (bytes_of line) ≡ true
    → line_answer line ≡ level_line (parsed_level_one (list_text (bytes_of line) 1) (list_table (bytes_of line) 1))
unfolding line_answer frame_answer frame_read line_by formed read_of pick
by-level-one line h e w = rw (h, op, w) refl
  where
    op : operation_of (bytes_of line) ≡ LevelOne
    op = ap asked e ∙ five-is
