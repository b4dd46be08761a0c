-- How long an answer can be: at most 111 characters, for every line, and 107 if its operation is not 05. So 147 are room enough, which a text
-- of any stored Date would need. Assumes nothing.
use mathlib.Core.Path.{◌≡◌, refl, ap, ◌∙◌}
use mathlib.Core.Bool.{true, false}
use mathlib.Core.List.{List, [], ◌∷◌}
use Prim.Native.Nat.{ℕ, ◌≤◌}
use native.Mathlib.Omega.{arith}
use lib.IntN.{negsuc}
use lib.ListN.{length}
use Rattle.chars.specs.Pick.{pick}
use Rattle.chars.specs.Ascii.{ascii}
use Rattle.chars.proofs.Cases.{by-test}
use Rattle.refusals.specs.declared.Kind.TheVariants.{BadFrame}
use Rattle.refusals.specs.Refusal.{file_span, refusal}
use Rattle.refusals.specs.declared.Refusal.{Refusal}
use Rattle.std.specs.Prelude.{None, Result, Ok}
use Rattle.dates.specs.declared.Datetime.{Datetime}
use Rattle.dates.specs.declared.DateValue.TheVariants.{Between}
use Rattle.dates.specs.declared.Date.{Date}
use Rattle.dates.specs.Value.{datetime, date}
use Rattle.hexes.specs.Hex.{is_digit, digit_of, all_digits, is_hex, bytes_of}
use Rattle.reading_laws.specs.Field.{parsed_level_one}
use Rattle.puts.specs.Numbers.{count, digit_count, width, decimal}
use Rattle.writer.specs.Texts.{minus, year_text, month_parts, parts_of, parts_text, too_large, end_panics}
use Rattle.puts.specs.Marks.{mark_text}
use Rattle.puts.specs.Answers.{measured}
use Rattle.writer.specs.Level.{long_sign, behind_text, level_end, level_value, level_text, level_end_panics, level_value_panics, level_panics}
use Rattle.writer.specs.Sizes.{NarrowEnds}
use Rattle.writer.proofs.Bounds.{text-short}
use Rattle.roundtrip_laws.specs.Level.{InLevel, of_long_year}
use Rattle.roundtrip_laws.proofs.Narrow.{parsed-narrow, strict-narrow, three-narrow, level-narrow}
use Rattle.roundtrip_laws.proofs.LevelBack.{level-back}
use Rattle.answers.specs.Answer.{end_length, shape, ends_bytes, marks, accepted_bytes, accepted_line, measured_line, answer_line, level_line}
use Rattle.answers.proofs.Digits.{length_two}
use Rattle.answers.proofs.Lines.{refused-length, line-most, level-line-most}
use Rattle.frames.specs.declared.Operation.{Operation}
use Rattle.frames.specs.declared.Operation.TheVariants.{Ported, Strict, LevelOne, ThreeFields, Unknown}
use Rattle.frames.specs.Lists.{word_at, end_of, row_at, table_of, text_of}
use Rattle.frames.specs.Room.{operation_of}
use Rattle.frames.specs.Frame.{read_of, bad_frame, frame_read, line_by, frame_answer, line_answer}
use Rattle.frames.proofs.Operations.{by-level-one}

-- so many characters an answer has at most, by the operation
abbrev most : Operation → ℕ
most Ported = 107
most Strict = 107
most LevelOne = 111
most ThreeFields = 107
most Unknown = 107

-- what is accepted has a text of at most 24 bytes
narrow_short : (r : Result Date Refusal) → ((d : Date) → r ≡ Ok d → NarrowEnds d.value) → length (answer_line r) ≤ 107
narrow_short r h = line-most 24 r λ d e. text-short d (h d e)

-- no frame
bad-short : length (answer_line bad_frame) ≤ 107
unfolding answer_line
bad-short = omega (arith, refused-length (refusal BadFrame (file_span 0 0)))

bad-by : (op : Operation) → length (line_by op bad_frame) ≤ most op
unfolding line_by answer_line level_line
bad-by Ported = bad-short
bad-by Strict = bad-short
bad-by LevelOne = omega (arith, bad-short)
bad-by ThreeFields = bad-short
bad-by Unknown = bad-short

-- by the operation
by-operation : (op : Operation) (f : List ℕ) → length (line_by op (read_of op f)) ≤ most op
unfolding line_by read_of
by-operation Ported f = narrow_short _ λ d e. parsed-narrow _ _ e
by-operation Strict f = narrow_short _ λ d e. strict-narrow _ _ e
by-operation LevelOne f = level-line-most 24 _ λ d e. level-narrow _ _ e
by-operation ThreeFields f = narrow_short _ λ d e. three-narrow _ e
by-operation Unknown f = bad-short

frame-short : (f : List ℕ) → length (frame_answer f) ≤ most (operation_of f)
unfolding frame_answer frame_read
frame-short f =
    by-test (λ (r : Result Date Refusal). length (line_by (operation_of f) r) ≤ most (operation_of f)) _
    (λ _. by-operation (operation_of f) f) (λ _. bad-by (operation_of f))

most-any : (op : Operation) → most op ≤ 111
most-any Ported = omega arith
most-any Strict = omega arith
most-any LevelOne = omega arith
most-any ThreeFields = omega arith
most-any Unknown = omega arith

most_other : (op : Operation) → (op ≡ LevelOne → ⊥) → most op ≤ 107
most_other Ported h = omega arith
most_other Strict h = omega arith
most_other LevelOne h = absurd (h refl)
most_other ThreeFields h = omega arith
most_other Unknown h = omega arith

-- of every line: of any numbers, bytes or not
pub answer-short : (line : List ℕ) → length (line_answer line) ≤ 111
unfolding line_answer
answer-short line =
    by-test (λ (l : List ℕ). length l ≤ 111) _
    (λ _. omega (arith, frame-short (bytes_of line), most-any (operation_of (bytes_of line)))) (λ _. omega (arith, bad-short))

-- of every other operation than that of level one
pub other-short : (line : List ℕ) → (operation_of (bytes_of line) ≡ LevelOne → ⊥) → length (line_answer line) ≤ 107
unfolding line_answer
other-short line h =
    by-test (λ (l : List ℕ). length l ≤ 107) _
    (λ _. omega (arith, frame-short (bytes_of line), most_other (operation_of (bytes_of line)) h)) (λ _. bad-short)

-- three bytes, two Datetimes with their seasons and a text of 42 bytes, two digits a byte, and a line feed are room enough
pub answer-most : (line : List ℕ) → length (line_answer line) ≤ 147
answer-most line = omega (arith, answer-short line)

-- ---- 111 are reached

-- a long year of nine digits, below 0
abbrev longest : Datetime
longest = datetime (negsuc 999999998) None None None

-- from it to it, uncertain and approximate
abbrev widest : Date
widest = date (Between longest longest) true true

-- its text
abbrev text : List ℕ
text = ascii "Y-999999999/Y-999999999%"

-- the frame of 05 with that text as one Normal chunk, from 0 to 24, as a line
abbrev pub longest_line : List ℕ
longest_line = ascii "050100180000000000000018592d3939393939393939392f592d39393939393939393925"

written : level_text widest ≡ text
unfolding level_text level_value level_end long_sign behind_text year_text minus decimal width digit_count count parts_of month_parts parts_text mark_text pick
written = refl

in-level : InLevel widest.value
in-level = (of_long_year {y = negsuc 999999998} (omega arith) (omega arith), of_long_year {y = negsuc 999999998} (omega arith) (omega arith))

accepted : parsed_level_one text (0 ∷ 24 ∷ 0 ∷ 24 ∷ []) ≡ Ok widest
accepted = rw written at (level-back widest in-level 0 24)

has-text : level_panics widest ≡ false
unfolding level_panics level_value_panics level_end_panics end_panics too_large parts_of month_parts pick
has-text = refl

-- its line
line-is : level_line (Ok widest) ≡ accepted_line true widest (level_text widest)
unfolding level_line measured_line measured pick
line-is = rw has-text

line-length : length (level_line (Ok widest)) ≡ 111
unfolding accepted_bytes shape ends_bytes end_length
line-length = ap length line-is ∙ length_two true (marks true true) longest longest (level_text widest) ∙ rw written

-- the answer to this line of digits is as long
pub longest-reached : length (line_answer longest_line) ≡ 111
unfolding is_hex is_digit all_digits digit_of pick text_of table_of row_at word_at end_of
longest-reached = ap length (by-level-one longest_line refl refl refl ∙ ap level_line accepted) ∙ line-length
