-- The month field: a number or a name.
use Rattle.std.specs.Prelude.{ℕ, ◌-◌, List, eqb, Option, Result, Ok, Err}
use Rattle.chars.specs.Pick.{pick}
use Rattle.scanner.specs.declared.Class.TheVariants.{AsciiAlphabetic}
use Rattle.scanner.specs.Scan.{eat_while, part}
use Rattle.refusals.specs.Offset.{panics}
use Rattle.numbers.specs.declared.Digits.TheVariants.{OneOrTwo}
use Rattle.dates.specs.declared.Month.{Month}
use Rattle.numbers.specs.declared.NoNumber.{NoNumber}
use Rattle.numbers.specs.declared.NoNumber.TheVariants.{Panics, Wrong}
use Rattle.refusals.specs.declared.TextRefusal.{TextRefusal}
use Rattle.scanner.specs.declared.Cursor.{Cursor}
use Rattle.numbers.specs.Number.{parse_unsigned_int}
use Rattle.fields.specs.Names.{stored_month, month_for}

-- the letters from a place to another: the month that they name, if they name one
unfoldable pub named : List ℕ → ℕ → ℕ → Result (Option Month × Cursor) TextRefusal
named s start end = Ok (month_for (part s start end), record { 0 = end })

-- a number is the month less 1, with no upper bound, and 0 panics; where no number of one or two bytes stands, the letters behind
-- what stands there
unfoldable pub month_of : List ℕ → Result (ℕ × Cursor) NoNumber → Result (Option Month × Cursor) TextRefusal
month_of s (Ok (v, c)) = pick (eqb v 0) (Err panics) (Ok (stored_month (v - 1), c))
month_of s (Err (Wrong c)) = named s c.0 (eat_while AsciiAlphabetic s c.0)
month_of s (Err Panics) = Err panics

-- the month of a month field, and the place behind it
unfoldable pub month_field : List ℕ → Result (Option Month × Cursor) TextRefusal
month_field s = month_of s (parse_unsigned_int s 0 OneOrTwo)
