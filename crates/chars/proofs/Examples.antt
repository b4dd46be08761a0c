-- Each bound that the definitions of this crate name, from both sides: rows with the answer written out. Assumes nothing.
use mathlib.Core.Path.{◌≡◌, refl}
use mathlib.Core.Bool.{Bool, true, false}
use mathlib.Core.List.{List, [], ◌∷◌, map}
use Prim.Native.Nat.{ℕ}
use lib.IntN.{pos, negsuc}
use Rattle.chars.specs.Pick.{pick}
use Rattle.chars.specs.Ascii.{ascii, digit_of}
use Rattle.chars.specs.Signs.{signed}
use Rattle.chars.specs.Classes.{within, is_admitted, is_whitespace, is_ascii_digit, is_numeric, is_ascii_alphabetic, is_alphabetic, is_alphanumeric}
use Rattle.chars.specs.Upper.{loses32, upper_of, codes_of}
use Rattle.chars.specs.Utf8.{len_of, ones_from, leading_ones, len_by_ones, is_cont, is_surrogate, decode2, decode3, decode4, decode, first, decode_at, len_d, encode, encode_all}
use Rattle.chars.specs.declared.Decoded.{Decoded}
use Rattle.chars.specs.declared.Decoded.TheVariants.{Char, Bad, End}
use Rattle.chars.specs.declared.Upper.{Upper}
use Rattle.chars.specs.declared.Upper.TheVariants.{One, Two}

-- what is asked, and the answer
abbrev pub Rows : Type 0 → Type 0 → Type 0
Rows A B = List (A × B)

-- the function answers each row as the row says
abbrev pub Answers : {A B : Type 0} → (A → B) → Rows A B → Type 0
Answers {A} {B} f rows = map (λ (r : A × B). f r.0) rows ≡ map (λ (r : A × B). r.1) rows

-- the leading one bits of a byte
abbrev pub ones : Rows ℕ ℕ
ones =
    (0x00, 0) ∷ (0x7F, 0) ∷ (0x80, 1) ∷ (0xBF, 1) ∷ (0xC0, 2) ∷ (0xDF, 2) ∷ (0xE0, 3) ∷ (0xEF, 3)
    ∷ (0xF0, 4) ∷ (0xF7, 4) ∷ (0xF8, 5) ∷ (0xFB, 5) ∷ (0xFC, 6) ∷ (0xFD, 6) ∷ (0xFE, 7) ∷ (0xFF, 8) ∷ []

pub ones-rows : Answers leading_ones ones
unfolding leading_ones ones_from pick
ones-rows = refl

-- the length by their count
abbrev pub by_ones : Rows ℕ ℕ
by_ones =
    (0, 1) ∷ (1, 0) ∷ (2, 2) ∷ (3, 3) ∷ (4, 4) ∷ (5, 0) ∷ (6, 0) ∷ (7, 0) ∷ (8, 0) ∷ []

pub by-ones-rows : Answers len_by_ones by_ones
unfolding len_by_ones pick
by-ones-rows = refl

-- the length by the first byte
abbrev pub lengths : Rows ℕ ℕ
lengths =
    (0x00, 1) ∷ (0x7F, 1) ∷ (0x80, 0) ∷ (0xBF, 0) ∷ (0xC0, 2) ∷ (0xDF, 2) ∷ (0xE0, 3) ∷ (0xEF, 3)
    ∷ (0xF0, 4) ∷ (0xF7, 4) ∷ (0xF8, 0) ∷ (0xFC, 0) ∷ (0xFE, 0) ∷ (0xFF, 0) ∷ []

pub lengths-rows : Answers len_of lengths
unfolding len_of pick
lengths-rows = refl

-- a byte that continues a character
abbrev pub continuing : Rows ℕ Bool
continuing =
    (0x7F, false) ∷ (0x80, true) ∷ (0xBF, true) ∷ (0xC0, false) ∷ []

pub continuing-rows : Answers is_cont continuing
unfolding is_cont
continuing-rows = refl

-- a surrogate
abbrev pub surrogates : Rows ℕ Bool
surrogates =
    (0xD7FF, false) ∷ (0xD800, true) ∷ (0xDFFF, true) ∷ (0xE000, false) ∷ []

pub surrogates-rows : Answers is_surrogate surrogates
unfolding is_surrogate
surrogates-rows = refl

-- a character of one byte, and bytes that start none
abbrev pub bytes-1 : Rows (List ℕ) Decoded
bytes-1 =
    ([], End)
    ∷ (0x00 ∷ [], Char 0x00 1)
    ∷ (0x7F ∷ [], Char 0x7F 1)
    ∷ (0x7F ∷ 0xFF ∷ [], Char 0x7F 1)
    ∷ (0x80 ∷ [], Bad)
    ∷ (0x80 ∷ 0x80 ∷ [], Bad)
    ∷ (0xBF ∷ [], Bad)
    ∷ (0xF8 ∷ 0x88 ∷ 0x80 ∷ 0x80 ∷ [], Bad)
    ∷ (0xFF ∷ [], Bad) ∷ []

pub bytes-1-rows : Answers first bytes-1
unfolding first decode len_of is_cont is_surrogate decode2 decode3 decode4 pick
bytes-1-rows = refl

-- of two bytes: the ends of row 2 of the standard's table
abbrev pub bytes_2 : Rows (List ℕ) Decoded
bytes_2 =
    (0xC0 ∷ 0x80 ∷ [], Bad)
    ∷ (0xC1 ∷ 0xBF ∷ [], Bad)
    ∷ (0xC2 ∷ [], Bad)
    ∷ (0xC2 ∷ 0x7F ∷ [], Bad)
    ∷ (0xC2 ∷ 0x80 ∷ [], Char 0x80 2)
    ∷ (0xC2 ∷ 0x80 ∷ 0x80 ∷ [], Char 0x80 2)
    ∷ (0xC2 ∷ 0xBF ∷ [], Char 0xBF 2)
    ∷ (0xC2 ∷ 0xC0 ∷ [], Bad)
    ∷ (0xDF ∷ 0x7F ∷ [], Bad)
    ∷ (0xDF ∷ 0x80 ∷ [], Char 0x7C0 2)
    ∷ (0xDF ∷ 0xBF ∷ [], Char 0x7FF 2)
    ∷ (0xDF ∷ 0xC0 ∷ [], Bad) ∷ []

pub bytes-2-rows : Answers first bytes_2
unfolding first decode len_of is_cont is_surrogate decode2 decode3 decode4 pick
bytes-2-rows = refl

-- of three: the ends of rows 3 to 6
abbrev pub bytes-3 : Rows (List ℕ) Decoded
bytes-3 =
    (0xE0 ∷ 0xA0 ∷ [], Bad)
    ∷ (0xE0 ∷ 0x9F ∷ 0xBF ∷ [], Bad)
    ∷ (0xE0 ∷ 0xA0 ∷ 0x7F ∷ [], Bad)
    ∷ (0xE0 ∷ 0xA0 ∷ 0x80 ∷ [], Char 0x800 3)
    ∷ (0xE0 ∷ 0xBF ∷ 0xBF ∷ [], Char 0xFFF 3)
    ∷ (0xE0 ∷ 0xBF ∷ 0xC0 ∷ [], Bad)
    ∷ (0xE0 ∷ 0xC0 ∷ 0x80 ∷ [], Bad)
    ∷ (0xE1 ∷ 0x7F ∷ 0xBF ∷ [], Bad)
    ∷ (0xE1 ∷ 0x80 ∷ 0x7F ∷ [], Bad)
    ∷ (0xE1 ∷ 0x80 ∷ 0x80 ∷ [], Char 0x1000 3)
    ∷ (0xE1 ∷ 0xBF ∷ 0xBF ∷ [], Char 0x1FFF 3)
    ∷ (0xE1 ∷ 0xBF ∷ 0xC0 ∷ [], Bad)
    ∷ (0xE1 ∷ 0xC0 ∷ 0x80 ∷ [], Bad)
    ∷ (0xEC ∷ 0x7F ∷ 0xBF ∷ [], Bad)
    ∷ (0xEC ∷ 0x80 ∷ 0x7F ∷ [], Bad)
    ∷ (0xEC ∷ 0x80 ∷ 0x80 ∷ [], Char 0xC000 3)
    ∷ (0xEC ∷ 0xBF ∷ 0xBF ∷ [], Char 0xCFFF 3)
    ∷ (0xEC ∷ 0xBF ∷ 0xC0 ∷ [], Bad)
    ∷ (0xEC ∷ 0xC0 ∷ 0x80 ∷ [], Bad)
    ∷ (0xED ∷ 0x7F ∷ 0xBF ∷ [], Bad)
    ∷ (0xED ∷ 0x80 ∷ 0x7F ∷ [], Bad)
    ∷ (0xED ∷ 0x80 ∷ 0x80 ∷ [], Char 0xD000 3)
    ∷ (0xED ∷ 0x9F ∷ 0xBF ∷ [], Char 0xD7FF 3)
    ∷ (0xED ∷ 0x9F ∷ 0xC0 ∷ [], Bad)
    ∷ (0xED ∷ 0xA0 ∷ 0x80 ∷ [], Bad)
    ∷ (0xED ∷ 0xBF ∷ 0xBF ∷ [], Bad)
    ∷ (0xEE ∷ 0x7F ∷ 0xBF ∷ [], Bad)
    ∷ (0xEE ∷ 0x80 ∷ 0x7F ∷ [], Bad)
    ∷ (0xEE ∷ 0x80 ∷ 0x80 ∷ [], Char 0xE000 3)
    ∷ (0xEE ∷ 0xBF ∷ 0xBF ∷ [], Char 0xEFFF 3)
    ∷ (0xEE ∷ 0xBF ∷ 0xC0 ∷ [], Bad)
    ∷ (0xEE ∷ 0xC0 ∷ 0x80 ∷ [], Bad)
    ∷ (0xEF ∷ 0x7F ∷ 0xBF ∷ [], Bad)
    ∷ (0xEF ∷ 0x80 ∷ 0x7F ∷ [], Bad)
    ∷ (0xEF ∷ 0x80 ∷ 0x80 ∷ [], Char 0xF000 3)
    ∷ (0xEF ∷ 0xBF ∷ 0xBF ∷ [], Char 0xFFFF 3)
    ∷ (0xEF ∷ 0xBF ∷ 0xC0 ∷ [], Bad)
    ∷ (0xEF ∷ 0xC0 ∷ 0x80 ∷ [], Bad) ∷ []

pub bytes-3-rows : Answers first bytes-3
unfolding first decode len_of is_cont is_surrogate decode2 decode3 decode4 pick
bytes-3-rows = refl

-- of four: the ends of rows 7 to 9
abbrev pub bytes_4 : Rows (List ℕ) Decoded
bytes_4 =
    (0xF0 ∷ 0x90 ∷ 0x80 ∷ [], Bad)
    ∷ (0xF0 ∷ 0x8F ∷ 0xBF ∷ 0xBF ∷ [], Bad)
    ∷ (0xF0 ∷ 0x90 ∷ 0x7F ∷ 0x80 ∷ [], Bad)
    ∷ (0xF0 ∷ 0x90 ∷ 0x80 ∷ 0x7F ∷ [], Bad)
    ∷ (0xF0 ∷ 0x90 ∷ 0x80 ∷ 0x80 ∷ [], Char 0x10000 4)
    ∷ (0xF0 ∷ 0xBF ∷ 0xBF ∷ 0xBF ∷ [], Char 0x3FFFF 4)
    ∷ (0xF0 ∷ 0xBF ∷ 0xBF ∷ 0xC0 ∷ [], Bad)
    ∷ (0xF0 ∷ 0xBF ∷ 0xC0 ∷ 0x80 ∷ [], Bad)
    ∷ (0xF0 ∷ 0xC0 ∷ 0x80 ∷ 0x80 ∷ [], Bad)
    ∷ (0xF1 ∷ 0x7F ∷ 0xBF ∷ 0xBF ∷ [], Bad)
    ∷ (0xF1 ∷ 0x80 ∷ 0x7F ∷ 0x80 ∷ [], Bad)
    ∷ (0xF1 ∷ 0x80 ∷ 0x80 ∷ 0x7F ∷ [], Bad)
    ∷ (0xF1 ∷ 0x80 ∷ 0x80 ∷ 0x80 ∷ [], Char 0x40000 4)
    ∷ (0xF1 ∷ 0xBF ∷ 0xBF ∷ 0xBF ∷ [], Char 0x7FFFF 4)
    ∷ (0xF1 ∷ 0xBF ∷ 0xBF ∷ 0xC0 ∷ [], Bad)
    ∷ (0xF1 ∷ 0xBF ∷ 0xC0 ∷ 0x80 ∷ [], Bad)
    ∷ (0xF1 ∷ 0xC0 ∷ 0x80 ∷ 0x80 ∷ [], Bad)
    ∷ (0xF3 ∷ 0x7F ∷ 0xBF ∷ 0xBF ∷ [], Bad)
    ∷ (0xF3 ∷ 0x80 ∷ 0x7F ∷ 0x80 ∷ [], Bad)
    ∷ (0xF3 ∷ 0x80 ∷ 0x80 ∷ 0x7F ∷ [], Bad)
    ∷ (0xF3 ∷ 0x80 ∷ 0x80 ∷ 0x80 ∷ [], Char 0xC0000 4)
    ∷ (0xF3 ∷ 0xBF ∷ 0xBF ∷ 0xBF ∷ [], Char 0xFFFFF 4)
    ∷ (0xF3 ∷ 0xBF ∷ 0xBF ∷ 0xC0 ∷ [], Bad)
    ∷ (0xF3 ∷ 0xBF ∷ 0xC0 ∷ 0x80 ∷ [], Bad)
    ∷ (0xF3 ∷ 0xC0 ∷ 0x80 ∷ 0x80 ∷ [], Bad)
    ∷ (0xF4 ∷ 0x7F ∷ 0xBF ∷ 0xBF ∷ [], Bad)
    ∷ (0xF4 ∷ 0x80 ∷ 0x7F ∷ 0x80 ∷ [], Bad)
    ∷ (0xF4 ∷ 0x80 ∷ 0x80 ∷ 0x7F ∷ [], Bad)
    ∷ (0xF4 ∷ 0x80 ∷ 0x80 ∷ 0x80 ∷ [], Char 0x100000 4)
    ∷ (0xF4 ∷ 0x8F ∷ 0xBF ∷ 0xBF ∷ [], Char 0x10FFFF 4)
    ∷ (0xF4 ∷ 0x8F ∷ 0xBF ∷ 0xC0 ∷ [], Bad)
    ∷ (0xF4 ∷ 0x8F ∷ 0xC0 ∷ 0x80 ∷ [], Bad)
    ∷ (0xF4 ∷ 0x90 ∷ 0x80 ∷ 0x80 ∷ [], Bad)
    ∷ (0xF5 ∷ 0x80 ∷ 0x80 ∷ 0x80 ∷ [], Bad)
    ∷ (0xF7 ∷ 0xBF ∷ 0xBF ∷ 0xBF ∷ [], Bad) ∷ []

pub bytes-4-rows : Answers first bytes_4
unfolding first decode len_of is_cont is_surrogate decode2 decode3 decode4 pick
bytes-4-rows = refl

-- what stands at each place of A, U+00E9 and the end
pub places : Answers (decode_at (0x41 ∷ 0xC3 ∷ 0xA9 ∷ [])) ((0, Char 0x41 1) ∷ (1, Char 0xE9 2) ∷ (2, Bad) ∷ (3, End) ∷ (4, End) ∷ [])
unfolding decode_at first decode len_of is_cont is_surrogate decode2 decode3 decode4 pick
places = refl

-- how many bytes what was decoded has
pub sizes : Answers len_d ((Char 0x41 1, 1) ∷ (Char 0x10FFFF 4, 4) ∷ (Bad, 0) ∷ (End, 0) ∷ [])
unfolding len_d
sizes = refl

-- the bytes of a code
abbrev pub encoded : Rows ℕ (List ℕ)
encoded =
    (0x00, 0x00 ∷ [])
    ∷ (0x7F, 0x7F ∷ [])
    ∷ (0x80, 0xC2 ∷ 0x80 ∷ [])
    ∷ (0x7FF, 0xDF ∷ 0xBF ∷ [])
    ∷ (0x800, 0xE0 ∷ 0xA0 ∷ 0x80 ∷ [])
    ∷ (0x2013, 0xE2 ∷ 0x80 ∷ 0x93 ∷ [])
    ∷ (0xFFFF, 0xEF ∷ 0xBF ∷ 0xBF ∷ [])
    ∷ (0x10000, 0xF0 ∷ 0x90 ∷ 0x80 ∷ 0x80 ∷ [])
    ∷ (0x10FFFF, 0xF4 ∷ 0x8F ∷ 0xBF ∷ 0xBF ∷ []) ∷ []

pub encoded-rows : Answers encode encoded
unfolding encode pick
encoded-rows = refl

-- the bytes of codes, one behind the other
pub all-encoded : Answers encode_all (([], []) ∷ (0x41 ∷ 0xE9 ∷ 0x2013 ∷ [], 0x41 ∷ 0xC3 ∷ 0xA9 ∷ 0xE2 ∷ 0x80 ∷ 0x93 ∷ []) ∷ [])
unfolding encode_all encode pick
all-encoded = refl

-- the characters that are read
abbrev pub admitted : Rows ℕ Bool
admitted =
    (0x00, true) ∷ (0xFF, true) ∷ (0x100, false) ∷ (0x1FFF, false) ∷ (0x2000, true) ∷ (0x206F, true) ∷ (0x2070, false) ∷ []

pub admitted-rows : Answers is_admitted admitted
unfolding is_admitted within
admitted-rows = refl

-- white space
abbrev pub white : Rows ℕ Bool
white =
    (0x08, false) ∷ (0x09, true) ∷ (0x0D, true) ∷ (0x0E, false) ∷ (0x1F, false) ∷ (0x20, true) ∷ (0x21, false)
    ∷ (0x84, false) ∷ (0x85, true) ∷ (0x86, false) ∷ (0x9F, false) ∷ (0xA0, true) ∷ (0xA1, false) ∷ (0x1FFF, false)
    ∷ (0x2000, true) ∷ (0x200A, true) ∷ (0x200B, false) ∷ (0x2027, false) ∷ (0x2028, true) ∷ (0x2029, true) ∷ (0x202A, false)
    ∷ (0x202E, false) ∷ (0x202F, true) ∷ (0x2030, false) ∷ (0x205E, false) ∷ (0x205F, true) ∷ (0x2060, false) ∷ []

pub white-rows : Answers is_whitespace white
unfolding is_whitespace within
white-rows = refl

-- the ASCII digits
abbrev pub digits : Rows ℕ Bool
digits =
    (0x2F, false) ∷ (0x30, true) ∷ (0x39, true) ∷ (0x3A, false) ∷ (0xB2, false) ∷ []

pub digits-rows : Answers is_ascii_digit digits
unfolding is_ascii_digit within
digits-rows = refl

-- numeric characters
abbrev pub numeric : Rows ℕ Bool
numeric =
    (0x2F, false) ∷ (0x30, true) ∷ (0x39, true) ∷ (0x3A, false) ∷ (0xB1, false) ∷ (0xB2, true) ∷ (0xB3, true)
    ∷ (0xB4, false) ∷ (0xB8, false) ∷ (0xB9, true) ∷ (0xBA, false) ∷ (0xBB, false) ∷ (0xBC, true) ∷ (0xBD, true)
    ∷ (0xBE, true) ∷ (0xBF, false) ∷ []

pub numeric-rows : Answers is_numeric numeric
unfolding is_numeric is_ascii_digit within
numeric-rows = refl

-- the ASCII letters
abbrev pub letters : Rows ℕ Bool
letters =
    (0x40, false) ∷ (0x41, true) ∷ (0x5A, true) ∷ (0x5B, false) ∷ (0x60, false) ∷ (0x61, true) ∷ (0x7A, true)
    ∷ (0x7B, false) ∷ (0xAA, false) ∷ []

pub letters-rows : Answers is_ascii_alphabetic letters
unfolding is_ascii_alphabetic within
letters-rows = refl

-- alphabetic characters
abbrev pub alphabetic : Rows ℕ Bool
alphabetic =
    (0x40, false) ∷ (0x41, true) ∷ (0x5A, true) ∷ (0x5B, false) ∷ (0x60, false) ∷ (0x61, true) ∷ (0x7A, true)
    ∷ (0x7B, false) ∷ (0xA9, false) ∷ (0xAA, true) ∷ (0xAB, false) ∷ (0xB4, false) ∷ (0xB5, true) ∷ (0xB6, false)
    ∷ (0xB9, false) ∷ (0xBA, true) ∷ (0xBB, false) ∷ (0xBF, false) ∷ (0xC0, true) ∷ (0xD6, true) ∷ (0xD7, false)
    ∷ (0xD8, true) ∷ (0xF6, true) ∷ (0xF7, false) ∷ (0xF8, true) ∷ (0xFF, true) ∷ (0x100, false) ∷ []

pub alphabetic-rows : Answers is_alphabetic alphabetic
unfolding is_alphabetic is_ascii_alphabetic within
alphabetic-rows = refl

-- alphabetic or numeric ones
abbrev pub alphanumeric : Rows ℕ Bool
alphanumeric =
    (0x2F, false) ∷ (0x30, true) ∷ (0x3A, false) ∷ (0x40, false) ∷ (0x41, true) ∷ (0x61, true) ∷ (0xB1, false)
    ∷ (0xB2, true) ∷ (0xBD, true) ∷ (0xC0, true) ∷ (0xD7, false) ∷ (0xFF, true) ∷ (0x2013, false) ∷ []

pub alphanumeric-rows : Answers is_alphanumeric alphanumeric
unfolding is_alphanumeric is_alphabetic is_ascii_alphabetic is_numeric is_ascii_digit within
alphanumeric-rows = refl

-- upper case
abbrev pub upper : Rows ℕ Upper
upper =
    (0x60, One 0x60) ∷ (0x61, One 0x41) ∷ (0x7A, One 0x5A) ∷ (0x7B, One 0x7B) ∷ (0xB4, One 0xB4) ∷ (0xB5, One 0x39C)
    ∷ (0xB6, One 0xB6) ∷ (0xDE, One 0xDE) ∷ (0xDF, Two 0x53 0x53) ∷ (0xE0, One 0xC0) ∷ (0xF6, One 0xD6) ∷ (0xF7, One 0xF7)
    ∷ (0xF8, One 0xD8) ∷ (0xFE, One 0xDE) ∷ (0xFF, One 0x178) ∷ (0x100, One 0x100) ∷ (0x2013, One 0x2013) ∷ []

pub upper-rows : Answers upper_of upper
unfolding upper_of loses32 within pick
upper-rows = refl

-- which letters lose 32
abbrev pub losing : Rows ℕ Bool
losing =
    (0x60, false) ∷ (0x61, true) ∷ (0x7A, true) ∷ (0x7B, false) ∷ (0xDF, false) ∷ (0xE0, true)
    ∷ (0xF6, true) ∷ (0xF7, false) ∷ (0xF8, true) ∷ (0xFE, true) ∷ (0xFF, false) ∷ []

pub losing-rows : Answers loses32 losing
unfolding loses32 within
losing-rows = refl

-- the characters of an upper case
pub upper-codes : Answers codes_of ((One 0x41, 0x41 ∷ []) ∷ (Two 0x53 0x53, 0x53 ∷ 0x53 ∷ []) ∷ [])
unfolding codes_of
upper-codes = refl

-- what a byte says as a digit
pub digit-values : Answers digit_of ((0x2F, 10) ∷ (0x30, 0) ∷ (0x31, 1) ∷ (0x39, 9) ∷ (0x3A, 10) ∷ (0xB2, 10) ∷ [])
unfolding digit_of pick
digit-values = refl

-- a quoted text
pub quoted : Answers ascii (("", []) ∷ ("BC", 0x42 ∷ 0x43 ∷ []) ∷ [])
quoted = refl

-- a number behind a minus, and without it
pub negative : Answers (signed true) ((0, pos 0) ∷ (1, negsuc 0) ∷ (5, negsuc 4) ∷ [])
unfolding signed
negative = refl

pub positive : Answers (signed false) ((0, pos 0) ∷ (1, pos 1) ∷ (5, pos 5) ∷ [])
unfolding signed
positive = refl
