-- Hexadecimal lines: the bytes that a line of digits stands for.
use Prim.Native.Char.{code}
use Rattle.std.specs.Prelude.{ℕ, ◌+◌, ◌-◌, ◌*◌, ◌/◌, ◌%◌, Bool, true, ◌&&◌, ◌||◌, List, [], ◌∷◌, ◌++◌, eqb, leb, length, drop, Option, Some, None}
use Rattle.chars.specs.Pick.{pick}

-- from a byte to another
abbrev pub within : ℕ → ℕ → ℕ → Bool
within low high b = leb low b && leb b high

-- whether a byte is a digit: 0 to 9, and a to f in either case
unfoldable pub is_digit : ℕ → Bool
is_digit b = within (code "0") (code "9") b || (within (code "a") (code "f") b || within (code "A") (code "F") b)

-- the value of a digit; it is asked of digits only
unfoldable pub digit_of : ℕ → ℕ
digit_of b = pick (within (code "0") (code "9") b) (b - code "0") (pick (within (code "a") (code "f") b) (b - code "a" + 10) (b - code "A" + 10))

-- whether every byte is a digit
unfoldable pub all_digits : List ℕ → Bool
all_digits [] = true
all_digits (b ∷ l) = is_digit b && all_digits l

-- the bytes, two digits each, the high one first
abbrev pub bytes_of : List ℕ → List ℕ
bytes_of [] = []
bytes_of (a ∷ []) = []
bytes_of (a ∷ b ∷ l) = (digit_of a * 16 + digit_of b) ∷ bytes_of l

-- how many bytes a line stands for
abbrev pub half : List ℕ → ℕ
half line = length line / 2

-- whether a line is digits, two for each byte, of at most so many bytes
unfoldable pub is_hex : List ℕ → ℕ → Bool
is_hex line room = eqb (length line % 2) 0 && (leb (half line) room && all_digits line)

-- what is said of a line
unfoldable pub decoded : List ℕ → ℕ → Option ℕ
decoded line room = pick (is_hex line room) (Some (half line)) None

-- the buffer afterwards: the bytes at its front, or, if the line is none, all as it was
unfoldable pub decoded_into : List ℕ → List ℕ → List ℕ
decoded_into line out = pick (is_hex line (length out)) (bytes_of line ++ drop (half line) out) out
