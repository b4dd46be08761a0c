-- One piece as a page range: what its text says, and where it is refused.
use Prim.Native.Char.{code}
use Rattle.std.specs.Prelude.{ℕ, List, Option, Some, None, Result, Ok, Err}
use Rattle.chars.specs.Pick.{pick}
use Rattle.scanner.specs.declared.Class.TheVariants.{Whitespace, AsciiDigit, Is}
use Rattle.scanner.specs.declared.Cursor.{Cursor}
use Rattle.refusals.specs.declared.Refusal.{Refusal}
use Rattle.scanner.specs.declared.Run.{Run}
use Rattle.scanner.specs.Scan.{eat_while, eat_if, done_at, part, next_run}
use Rattle.numbers.specs.Parse.{parse}
use Rattle.refusals.specs.declared.FileSpan.{FileSpan}
use Rattle.refusals.specs.declared.Kind.TheVariants.{InvalidNumber}
use Rattle.refusals.specs.Refusal.{refusal}
use Rattle.refusals.specs.Offset.{text_refusal, offset_number, until_span_end}
use Rattle.chunks.specs.Chunks.{chunks_of, span_of}
use Rattle.chunks.specs.Check.{checked}
use Rattle.chunks.specs.Format.{formatted}

-- the number of a run of digits and the place behind it; none where there is no digit, or the number is above 32 bits
unfoldable pub numbered : ℕ → Run → Option ℕ → Result (ℕ × Cursor) Refusal
numbered start run (Some v) = Ok (v, run.end)
numbered start run None = Err (offset_number (text_refusal InvalidNumber run.start.0 run.end.0) start)

-- the same, by the text
unfoldable pub number_of : List ℕ → ℕ → Run → Result (ℕ × Cursor) Refusal
number_of s start run = numbered start run (parse 4294967295 (part s run.start.0 run.end.0))

-- white space, then ASCII digits
unfoldable pub number_at : List ℕ → ℕ → ℕ → Result (ℕ × Cursor) Refusal
number_at s start at = number_of s start (next_run AsciiDigit s at)

-- what was eaten, or else what is eaten next
unfoldable pub or_else : Option Cursor → Option Cursor → Option Cursor
or_else (Some c) next = Some c
or_else None next = next

-- one hyphen, en dash or em dash
unfoldable pub dash_at : List ℕ → ℕ → Option Cursor
dash_at s at = or_else (eat_if (Is (code "-")) s at) (or_else (eat_if (Is 0x2013) s at) (eat_if (Is 0x2014) s at))

-- a number that was read goes on
unfoldable pub on_number : Result (ℕ × Cursor) Refusal → (ℕ → Cursor → Result (ℕ × ℕ) Refusal) → Result (ℕ × ℕ) Refusal
on_number (Ok (v, c)) go = go v c
on_number (Err e) go = Err e

-- the second number and the end. Else the place is from before that number to the end of the span
unfoldable pub second_at : List ℕ → ℕ → ℕ → FileSpan → Result (ℕ × ℕ) Refusal
second_at s a first span =
    on_number (number_at s span.0 a) λ v c.
    pick (done_at s c.0) (Ok (first, v)) (Err (until_span_end InvalidNumber a span))

-- more hyphens and white space come before it
unfoldable pub behind_dash : List ℕ → ℕ → ℕ → FileSpan → Result (ℕ × ℕ) Refusal
behind_dash s at first span = second_at s (eat_while Whitespace s (eat_while (Is (code "-")) s at)) first span

-- a dash was eaten or not
unfoldable pub on_dash : Option Cursor → (Cursor → Result (ℕ × ℕ) Refusal) → Result (ℕ × ℕ) Refusal → Result (ℕ × ℕ) Refusal
on_dash (Some c) go stay = go c
on_dash None go stay = stay

-- a dash, or the end: then the range is one page. Else the place is the whole span
unfoldable pub behind_first : List ℕ → ℕ → ℕ → FileSpan → Result (ℕ × ℕ) Refusal
behind_first s at first span =
    on_dash (dash_at s at) (λ c. behind_dash s c.0 first span)
    (pick (done_at s at) (Ok (first, first)) (Err (refusal InvalidNumber span)))

-- the range that a text is: a number, white space, and so on
unfoldable pub range_text : List ℕ → FileSpan → Result (ℕ × ℕ) Refusal
range_text s span = on_number (number_at s span.0 0) λ v c. behind_first s (eat_while Whitespace s c.0) v span

-- a piece without a fault is read; else the fault is the answer
unfoldable pub on_clean : Result (Unit {0}) Refusal → Result (ℕ × ℕ) Refusal → Result (ℕ × ℕ) Refusal
on_clean (Ok tt) read = read
on_clean (Err e) read = Err e

-- one piece: the formatted text as it is
unfoldable pub piece : List ℕ → List ℕ → Result (ℕ × ℕ) Refusal
piece b table = on_clean (checked b table) (range_text (formatted b table) (span_of (chunks_of table)))
