-- Whether a year of two digits was put into the window of a hundred years.
use Prim.Native.Char.{code}
use Rattle.std.specs.Prelude.{ℕ, ◌+◌, Bool, true, false, not, ◌&&◌, ◌||◌, List, ltb, length, take, drop, Result, Ok, Err, ℤ}
use Rattle.numbers.specs.declared.Digits.TheVariants.{Two}
use Rattle.numbers.specs.declared.NoNumber.{NoNumber}
use Rattle.scanner.specs.declared.Cursor.{Cursor}
use Rattle.numbers.specs.Number.{parse_int}
use Rattle.datefield.specs.Text.{first_of}

-- whether a byte stands in a text
unfoldable pub stands : ℕ → List ℕ → Bool
stands b s = ltb (first_of b s) (length s)

-- an X makes a text an X range, in which no year has two digits
unfoldable pub has_x : List ℕ → Bool
has_x s = stands (code "X") s || stands (code "x") s

-- whether a number was read
unfoldable pub is_int : Result (ℤ × Cursor) NoNumber → Bool
is_int (Ok (value, next)) = true
is_int (Err e) = false

-- whether a text begins with white space, a sign or none, and a number of just two bytes
unfoldable pub begins_two : List ℕ → Bool
begins_two s = is_int (parse_int s 0 Two)

-- the same of the text before a place, or of the one behind the byte there
unfoldable pub either_two : List ℕ → ℕ → Bool
either_two s slash = begins_two (take slash s) || begins_two (drop (slash + 1) s)

-- there is no X, and a half begins with two digits. Without a slash the first half is all of the text, and the second is empty
unfoldable pub is_windowed : List ℕ → Bool
is_windowed s = not (has_x s) && either_two s (first_of (code "/") s)
