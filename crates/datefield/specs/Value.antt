-- A date field's text, in upper case: what it says, or the refusal with its place in the file. The span is the chunk list's.
use Prim.Native.Char.{code}
use Rattle.std.specs.Prelude.{ℕ, ◌+◌, Bool, List, ltb, length, take, drop, Result, Ok, Err}
use Rattle.chars.specs.Pick.{pick}
use Rattle.refusals.specs.declared.Kind.TheVariants.{UndefinedRange}
use Rattle.refusals.specs.declared.FileSpan.{FileSpan}
use Rattle.refusals.specs.declared.Refusal.{Refusal}
use Rattle.refusals.specs.declared.TextRefusal.{TextRefusal}
use Rattle.refusals.specs.Refusal.{refusal}
use Rattle.refusals.specs.Offset.{offset, offset_second}
use Rattle.dates.specs.declared.Datetime.{Datetime}
use Rattle.dates.specs.declared.DateValue.TheVariants.{At, After, Before, Between}
use Rattle.dates.specs.Value.{date}
use Rattle.dates.specs.declared.Date.{Date}
use Rattle.dates.specs.declared.DateValue.{DateValue}
use Rattle.points.specs.Point.{point}
use Rattle.xranges.specs.Range.{range_dates}
use Rattle.datefield.specs.Text.{trimmed, last_byte, is_uncertain, is_approximate, unmarked, first_of, is_open}

-- a point, or its refusal moved to its place in the file
unfoldable pub moved : Result Datetime TextRefusal → (TextRefusal → Refusal) → Result Datetime Refusal
moved (Ok d) by = Ok d
moved (Err e) by = Err (by e)

-- the half before the slash: its place moves by the span's start
unfoldable pub first_half : FileSpan → List ℕ → ℕ → Result Datetime Refusal
first_half span s slash = moved (point (take slash s)) λ e. offset e span.0

-- the half behind the slash: its place moves by the slash too
unfoldable pub second_half : FileSpan → List ℕ → ℕ → Result Datetime Refusal
second_half span s slash = moved (point (drop (slash + 1) s)) λ e. offset_second e span.0 slash

-- a half that was read goes on
unfoldable pub on_half : Result Datetime Refusal → (Datetime → Result DateValue Refusal) → Result DateValue Refusal
on_half (Ok d) go = go d
on_half (Err e) go = Err e

-- both halves; a start after the end is accepted
unfoldable pub both_halves : FileSpan → List ℕ → ℕ → Result DateValue Refusal
both_halves span s slash = on_half (first_half span s slash) λ a. on_half (second_half span s slash) λ b. Ok (Between a b)

-- a range: by its open halves; both open is refused at the span
unfoldable pub halves : FileSpan → List ℕ → ℕ → Result DateValue Refusal
halves span s slash =
    pick (is_open (take slash s))
    (pick (is_open (drop (slash + 1) s)) (Err (refusal UndefinedRange span)) (on_half (second_half span s slash) λ b. Ok (Before b)))
    (pick (is_open (drop (slash + 1) s)) (on_half (first_half span s slash) λ a. Ok (After a)) (both_halves span s slash))

-- an X range is two dates; it is read from the text's start, so its place moves by the span alone
unfoldable pub x_range : FileSpan → Result (Datetime × Datetime) TextRefusal → Result DateValue Refusal
x_range span (Ok (a, b)) = Ok (Between a b)
x_range span (Err e) = Err (offset e span.0)

-- an X anywhere: an X range; else a slash: a range; else a point
unfoldable pub value : FileSpan → List ℕ → Result DateValue Refusal
value span s =
    pick (ltb (first_of (code "X") s) (length s)) (x_range span (range_dates s))
    (pick (ltb (first_of (code "/") s) (length s)) (halves span s (first_of (code "/") s))
    (on_half (moved (point s) λ e. offset e span.0) λ d. Ok (At d)))

-- the marks are those of the whole Date, not of one end
unfoldable pub marked : Bool → Bool → Result DateValue Refusal → Result Date Refusal
marked uncertain approximate (Ok v) = Ok (date v uncertain approximate)
marked uncertain approximate (Err e) = Err e

-- a text that is trimmed: one final mark is dropped, and the rest is read
unfoldable pub trimmed_date : FileSpan → List ℕ → Result Date Refusal
trimmed_date span s = marked (is_uncertain (last_byte s)) (is_approximate (last_byte s)) (value span (unmarked s))

-- the text of a date field, without the white space at its end
unfoldable pub parse_text : FileSpan → List ℕ → Result Date Refusal
parse_text span s = trimmed_date span (trimmed s)
