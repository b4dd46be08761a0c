-- The number that a run of numeric characters is, and how white space and a sign stand before it.
use Prim.Native.Char.{code}
use Rattle.std.specs.Prelude.{ℕ, Bool, ◌||◌, List, eqb, length, Option, Some, None, Result, Ok, Err, ℤ}
use Rattle.chars.specs.Pick.{pick}
use Rattle.scanner.specs.declared.Class.TheVariants.{Whitespace, Numeric, Sign, Is}
use Rattle.scanner.specs.declared.Cursor.{Cursor}
use Rattle.numbers.specs.declared.NoNumber.{NoNumber}
use Rattle.numbers.specs.declared.NoNumber.TheVariants.{Panics, Wrong}
use Rattle.scanner.specs.Scan.{eat_while, eat_if, stands_at, part, next_run}
use Rattle.numbers.specs.declared.Digits.{Digits}
use Rattle.numbers.specs.declared.Digits.TheVariants.{OneOrTwo, Two, Four}
use Rattle.numbers.specs.declared.SignedRun.{SignedRun}
use Rattle.chars.specs.Signs.{signed}
use Rattle.numbers.specs.Parse.{digits_from}

-- the byte lengths that are admitted
unfoldable pub admits : Digits → ℕ → Bool
admits OneOrTwo n = eqb n 1 || eqb n 2
admits Two n = eqb n 2
admits Four n = eqb n 4

-- a place as the code has it
abbrev pub cursor : ℕ → Cursor
cursor at = record { 0 = at }

-- the number that the digits of a run are, and the run's end; where they are no number the ported code panics
unfoldable pub run_value : Option ℕ → ℕ → Result (ℕ × Cursor) NoNumber
run_value (Some n) end = Ok (n, cursor end)
run_value None end = Err Panics

-- a run, given by where it starts and ends: its byte length decides first. No number of at most four digits is above 9999, so it is none
-- just where a byte is no ASCII digit
unfoldable pub run_of : List ℕ → ℕ → ℕ → Digits → Result (ℕ × Cursor) NoNumber
run_of s start end digits =
    pick (admits digits (length (part s start end))) (run_value (digits_from 9999 (part s start end) 0) end) (Err (Wrong (cursor end)))

-- the run of numeric characters at a place
unfoldable pub run_at : List ℕ → ℕ → Digits → Result (ℕ × Cursor) NoNumber
run_at s at digits = run_of s at (eat_while Numeric s at) digits

-- white space, then such a run
unfoldable pub parse_unsigned_int : List ℕ → ℕ → Digits → Result (ℕ × Cursor) NoNumber
parse_unsigned_int s at digits = run_at s (eat_while Whitespace s at) digits

-- the place behind what was eaten there, or the place itself
unfoldable pub or_kept : Option Cursor → ℕ → ℕ
or_kept (Some c) at = c.0
or_kept None at = at

-- the place behind a plus or a minus, or the place itself
unfoldable pub behind_sign : List ℕ → ℕ → ℕ
behind_sign s at = or_kept (eat_if Sign s at) at

-- what was read, behind a minus or not
unfoldable pub with_sign : Bool → Result (ℕ × Cursor) NoNumber → Result (ℤ × Cursor) NoNumber
with_sign negative (Ok (n, c)) = Ok (signed negative n, c)
with_sign negative (Err e) = Err e

-- a sign at a place or none, white space, a run of numeric characters
unfoldable pub signed_at : List ℕ → ℕ → SignedRun
signed_at s at = record { negative = stands_at (Is (code "-")) s at; numeric = next_run Numeric s (behind_sign s at) }

-- white space, then such a run
unfoldable pub signed_run : List ℕ → ℕ → SignedRun
signed_run s at = signed_at s (eat_while Whitespace s at)

-- the number that a run with its sign is
unfoldable pub int_of : List ℕ → SignedRun → Digits → Result (ℤ × Cursor) NoNumber
int_of s r digits = with_sign r.negative (run_of s r.numeric.start.0 r.numeric.end.0 digits)

-- the number that stands at a place, with white space and a sign before it
unfoldable pub parse_int : List ℕ → ℕ → Digits → Result (ℤ × Cursor) NoNumber
parse_int s at digits = int_of s (signed_run s at) digits
