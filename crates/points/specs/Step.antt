-- The steps that a point is read in: the numbers between the separators, the separators, and how reading goes on behind them.
-- Each begins at a place and ends at one, or refuses with its place.
use Rattle.std.specs.Prelude.{ℕ, ◌-◌, List, ltb, Option, Some, None, Result, Ok, Err}
use Prim.Native.Char.{code}
use Rattle.chars.specs.Pick.{pick}
use Rattle.scanner.specs.declared.Class.TheVariants.{Whitespace, Is}
use Rattle.numbers.specs.declared.NoNumber.{NoNumber}
use Rattle.numbers.specs.declared.NoNumber.TheVariants.{Panics, Wrong}
use Rattle.scanner.specs.declared.Cursor.{Cursor}
use Rattle.scanner.specs.Scan.{eat_while, eat_if, done_at}
use Rattle.refusals.specs.Offset.{text_refusal, panics}
use Rattle.refusals.specs.declared.Kind.{Kind}
use Rattle.refusals.specs.declared.Kind.TheVariants.{InvalidFormat, MonthOutOfRange, DayOutOfRange, InvalidNumber}
use Rattle.refusals.specs.declared.TextRefusal.{TextRefusal}
use Rattle.numbers.specs.Number.{cursor, parse_unsigned_int}
use Rattle.numbers.specs.declared.Digits.TheVariants.{OneOrTwo}

-- why a number that should stand at a place is none: from where reading began to the end of the run, or the ported code panics
unfoldable pub refuse_number : ℕ → NoNumber → TextRefusal
refuse_number at (Wrong c) = text_refusal InvalidFormat at c.0
refuse_number at Panics = panics

-- a number from a lowest one to a highest, counted from the lowest. The place of a refusal is from where reading began, which is behind
-- the separator and before white space, to the end of the run
unfoldable pub stored_part : Result (ℕ × Cursor) NoNumber → ℕ → ℕ → ℕ → Kind → Result (ℕ × Cursor) TextRefusal
stored_part (Ok (v, c)) at low high k =
    pick (ltb v low) (Err (text_refusal k at c.0)) (pick (ltb high v) (Err (text_refusal k at c.0)) (Ok (v - low, c)))
stored_part (Err e) at low high k = Err (refuse_number at e)

-- white space and one or two numeric bytes, as such a number
unfoldable pub part_at : List ℕ → ℕ → ℕ → ℕ → Kind → Result (ℕ × Cursor) TextRefusal
part_at s at low high k = stored_part (parse_unsigned_int s at OneOrTwo) at low high k

-- a month, written from 1 to 12 and stored from zero
unfoldable pub month_at : List ℕ → ℕ → Result (ℕ × Cursor) TextRefusal
month_at s at = part_at s at 1 12 MonthOutOfRange

-- a day of any month, written from 1 to 31 and stored from zero
unfoldable pub day_at : List ℕ → ℕ → Result (ℕ × Cursor) TextRefusal
day_at s at = part_at s at 1 31 DayOutOfRange

-- an hour, from 0 to 23
unfoldable pub hour_at : List ℕ → ℕ → Result (ℕ × Cursor) TextRefusal
hour_at s at = part_at s at 0 23 InvalidNumber

-- a minute or a second, from 0 to 59
unfoldable pub sixty_at : List ℕ → ℕ → Result (ℕ × Cursor) TextRefusal
sixty_at s at = part_at s at 0 59 InvalidNumber

-- a run of hyphens behind the first; without one, the place is the white space before where it should stand
unfoldable pub hyphen_or : List ℕ → ℕ → ℕ → Option Cursor → Result Cursor TextRefusal
hyphen_or s at a (Some c) = Ok (cursor (eat_while (Is (code "-")) s c.0))
hyphen_or s at a None = Err (text_refusal InvalidFormat at a)

-- a run of hyphens at a, where reading began at the place before
unfoldable pub hyphen_from : List ℕ → ℕ → ℕ → Result Cursor TextRefusal
hyphen_from s at a = hyphen_or s at a (eat_if (Is (code "-")) s a)

-- white space, then a run of hyphens
unfoldable pub hyphen_at : List ℕ → ℕ → Result Cursor TextRefusal
hyphen_at s at = hyphen_from s at (eat_while Whitespace s at)

-- one colon, or a refusal likewise
unfoldable pub colon_or : ℕ → ℕ → Option Cursor → Result Cursor TextRefusal
colon_or at a (Some c) = Ok c
colon_or at a None = Err (text_refusal InvalidFormat at a)

-- a colon at a, where reading began at the place before
unfoldable pub colon_from : List ℕ → ℕ → ℕ → Result Cursor TextRefusal
colon_from s at a = colon_or at a (eat_if (Is (code ":")) s a)

-- white space, then a colon
unfoldable pub colon_at : List ℕ → ℕ → Result Cursor TextRefusal
colon_at s at = colon_from s at (eat_while Whitespace s at)

-- on with the number that was read, or its refusal
unfoldable pub on_part : {A : Type 0} → (TextRefusal → A) → Result (ℕ × Cursor) TextRefusal → (ℕ → ℕ → A) → A
on_part refuse (Ok (v, c)) go = go v c.0
on_part refuse (Err e) go = refuse e

-- on behind the separator, or its refusal, which is finished: nobody computes its place again
unfoldable pub on_separator : {A : Type 0} → (TextRefusal → A) → Result Cursor TextRefusal → (ℕ → A) → A
on_separator refuse (Ok c) go = go c.0
on_separator refuse (Err e) go = refuse e

-- white space and the end of the text: the answer so far; else on from there
unfoldable pub or_end : {A : Type 0} → List ℕ → ℕ → A → (ℕ → A) → A
or_end s at so_far go = pick (done_at s (eat_while Whitespace s at)) so_far (go (eat_while Whitespace s at))
