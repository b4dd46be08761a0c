-- The classes of characters that the readers eat, by code.
use Prim.Native.Char.{code}
use Rattle.std.specs.Prelude.{ℕ, Bool, not, ◌&&◌, ◌||◌, eqb}
use Rattle.chars.specs.Classes.{is_whitespace, is_numeric, is_ascii_digit, is_ascii_alphabetic, is_alphanumeric}
use Rattle.scanner.specs.declared.Class.{Class}
use Rattle.scanner.specs.declared.Class.TheVariants.{Whitespace, PlainWhitespace, Numeric, AsciiDigit, AsciiAlphabetic, Alphanumeric, Sign, Separator, Is}

-- whether a character is of a class: the names are those of the characters' classes, and besides them white space other than
-- U+00A0 (no-break space), a plus or a hyphen, a hyphen or U+00A0, and one character
unfoldable pub in_class : Class → ℕ → Bool
in_class Whitespace n = is_whitespace n
in_class PlainWhitespace n = is_whitespace n && not (eqb n 0xA0)
in_class Numeric n = is_numeric n
in_class AsciiDigit n = is_ascii_digit n
in_class AsciiAlphabetic n = is_ascii_alphabetic n
in_class Alphanumeric n = is_alphanumeric n
in_class Sign n = eqb n (code "+") || eqb n (code "-")
in_class Separator n = eqb n (code "-") || eqb n 0xA0
in_class (Is c) n = eqb n c
