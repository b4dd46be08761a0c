-- UTF-8 in plain arithmetic: how long a character is, what a text begins with, what stands at a place of it, and a code's bytes.
use Rattle.std.specs.Prelude.{ℕ, ◌+◌, ◌-◌, ◌*◌, ◌/◌, ◌%◌, List, [], ◌∷◌, ◌++◌, Bool, not, ◌&&◌, ltb, leb, eqb, get_or, drop}
use Rattle.chars.specs.Pick.{pick}
use Rattle.chars.specs.declared.Decoded.{Decoded}
use Rattle.chars.specs.declared.Decoded.TheVariants.{Char, Bad, End}

-- how many bytes a character has, by its first byte: 00..7F one, C0..DF two, E0..EF three, F0..F7 four; any other starts none
unfoldable pub len_of : ℕ → ℕ
len_of b = pick (ltb b 0x80) 1 (pick (ltb b 0xC0) 0 (pick (ltb b 0xE0) 2 (pick (ltb b 0xF0) 3 (pick (ltb b 0xF8) 4 0))))

-- how many one bits a number begins with, by the weights of its bits from the first on
unfoldable pub ones_from : List ℕ → ℕ → ℕ
ones_from [] b = 0
ones_from (w ∷ ws) b = pick (leb w b) (1 + ones_from ws (b - w)) 0

-- the count of leading one bits of a byte
unfoldable pub leading_ones : ℕ → ℕ
leading_ones b = ones_from (128 ∷ 64 ∷ 32 ∷ 16 ∷ 8 ∷ 4 ∷ 2 ∷ 1 ∷ []) b

-- the length by that count: no ones one byte, two to four ones so many bytes; one or more than four start no character
unfoldable pub len_by_ones : ℕ → ℕ
len_by_ones n = pick (eqb n 0) 1 (pick (leb 2 n && leb n 4) n 0)

-- a byte that continues a character: 80..BF
unfoldable pub is_cont : ℕ → Bool
is_cont b = leb 0x80 b && ltb b 0xC0

-- a code that is kept for UTF-16 and is no character: D800..DFFF
unfoldable pub is_surrogate : ℕ → Bool
is_surrogate n = leb 0xD800 n && ltb n 0xE000

-- the code that the payload bits of two bytes make: five bits and six
abbrev pub code2 : ℕ → ℕ → ℕ
code2 a b = a % 32 * 64 + b % 64

-- of three bytes: four bits, six and six
abbrev pub code3 : ℕ → ℕ → ℕ → ℕ
code3 a b c = (a % 16 * 64 + b % 64) * 64 + c % 64

-- of four bytes: three bits, six, six and six
abbrev pub code4 : ℕ → ℕ → ℕ → ℕ → ℕ
code4 a b c d = ((a % 8 * 64 + b % 64) * 64 + c % 64) * 64 + d % 64

-- a character of two bytes: the second continues it, and one byte would not do (else the form is overlong)
unfoldable pub decode2 : ℕ → ℕ → Decoded
decode2 a b = pick (is_cont b && leb 0x80 (code2 a b)) (Char (code2 a b) 2) Bad

-- of three bytes: not overlong, and no surrogate
unfoldable pub decode3 : ℕ → ℕ → ℕ → Decoded
decode3 a b c =
    pick (is_cont b && is_cont c && leb 0x800 (code3 a b c) && not (is_surrogate (code3 a b c))) (Char (code3 a b c) 3) Bad

-- of four bytes: not overlong, and not above U+10FFFF
unfoldable pub decode4 : ℕ → ℕ → ℕ → ℕ → Decoded
decode4 a b c d =
    pick (is_cont b && is_cont c && is_cont d && leb 0x10000 (code4 a b c d) && leb (code4 a b c d) 0x10FFFF) (Char (code4 a b c d) 4) Bad

-- what four bytes begin with, by the length that the first one says, from none to four
unfoldable pub decode : ℕ → ℕ → ℕ → ℕ → Decoded
decode a b c d = get_or (Bad ∷ Char a 1 ∷ decode2 a b ∷ decode3 a b c ∷ decode4 a b c d ∷ []) (len_of a) Bad

-- what a text begins with; behind its end there are zeros, which continue nothing, so a truncated character is ill-formed
unfoldable pub first : List ℕ → Decoded
first [] = End
first (a ∷ t) = decode a (get_or t 0 0) (get_or t 1 0) (get_or t 2 0)

-- what stands at a place of a text
unfoldable pub decode_at : List ℕ → ℕ → Decoded
decode_at s at = first (drop at s)

-- how many bytes what was decoded has: 0 where it is no character
unfoldable pub len_d : Decoded → ℕ
len_d (Char code len) = len
len_d Bad = 0
len_d End = 0

-- the bytes of a code: its bits six at a time from the right, and the marks of the first byte and of those that continue it
unfoldable pub encode : ℕ → List ℕ
encode c =
    pick (ltb c 0x80) (c ∷ [])
    (pick (ltb c 0x800) ((0xC0 + c / 64) ∷ (0x80 + c % 64) ∷ [])
    (pick (ltb c 0x10000) ((0xE0 + c / 64 / 64) ∷ (0x80 + c / 64 % 64) ∷ (0x80 + c % 64) ∷ [])
    ((0xF0 + c / 64 / 64 / 64) ∷ (0x80 + c / 64 / 64 % 64) ∷ (0x80 + c / 64 % 64) ∷ (0x80 + c % 64) ∷ [])))

-- the bytes of codes, one behind the other
unfoldable pub encode_all : List ℕ → List ℕ
encode_all [] = []
encode_all (c ∷ cs) = encode c ++ encode_all cs
