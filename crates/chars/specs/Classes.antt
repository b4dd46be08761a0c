-- The characters that are read, and their classes, by code. A wider set of characters changes this file and `Upper`.
use Rattle.std.specs.Prelude.{ℕ, Bool, ◌&&◌, ◌||◌, leb, eqb}

-- a code from the first number to the second
unfoldable pub within : ℕ → ℕ → ℕ → Bool
within a b n = leb a n && leb n b

-- the characters that are read: up to U+00FF, and U+2000..206F, the typesetter's dashes and spaces
unfoldable pub is_admitted : ℕ → Bool
is_admitted n = leb n 0xFF || within 0x2000 0x206F n

-- the typesetter's white space: U+2000..200A, 2028, 2029, 202F, 205F
abbrev pub is_wide_space : ℕ → Bool
is_wide_space n = within 0x2000 0x200A n || within 0x2028 0x2029 n || eqb n 0x202F || eqb n 0x205F

-- white space: U+0009..U+000D, U+0020, U+0085, U+00A0, and the typesetter's
unfoldable pub is_whitespace : ℕ → Bool
is_whitespace n = within 0x09 0x0D n || eqb n 0x20 || eqb n 0x85 || eqb n 0xA0 || is_wide_space n

-- the ASCII digits
unfoldable pub is_ascii_digit : ℕ → Bool
is_ascii_digit n = within 0x30 0x39 n

-- numeric: the ASCII digits and U+00B2, B3, B9, BC, BD, BE
unfoldable pub is_numeric : ℕ → Bool
is_numeric n = is_ascii_digit n || within 0xB2 0xB3 n || eqb n 0xB9 || within 0xBC 0xBE n

-- the ASCII letters
unfoldable pub is_ascii_alphabetic : ℕ → Bool
is_ascii_alphabetic n = within 0x41 0x5A n || within 0x61 0x7A n

-- alphabetic: the ASCII letters, U+00AA, B5, BA, C0..D6, D8..F6, F8..FF
unfoldable pub is_alphabetic : ℕ → Bool
is_alphabetic n =
    is_ascii_alphabetic n
    || eqb n 0xAA
    || eqb n 0xB5
    || eqb n 0xBA
    || within 0xC0 0xD6 n
    || within 0xD8 0xF6 n
    || within 0xF8 0xFF n

-- alphabetic or numeric
unfoldable pub is_alphanumeric : ℕ → Bool
is_alphanumeric n = is_alphabetic n || is_numeric n
