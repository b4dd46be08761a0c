-- Texts of characters up to U+00FF, by their bytes. What this says is proved to be what the definitions of `Check` and `Upper` say. No
-- public contract rests on it.
use Rattle.std.specs.Prelude.{ℕ, ◌-◌, Bool, true, not, ◌&&◌, ◌||◌, List, [], ◌∷◌, ltb, leb, eqb}
use Rattle.chars.specs.Pick.{pick}
use Rattle.chars.specs.Utf8.{is_cont}
use Rattle.chunks.specs.Plain.{plain_byte}

-- a byte that begins a character from U+0080 to U+00FF
unfoldable pub is_lead : ℕ → Bool
is_lead b = leb 0xC2 b && leb b 0xC3

-- whether a byte may stand behind another: one that continues a character just behind one that begins it
unfoldable pub may_follow : ℕ → ℕ → Bool
may_follow p b = pick (is_lead p) (is_cont b) (ltb b 0x80 || is_lead b)

-- whether each byte may, behind a byte that stands before them; the last one begins no character
unfoldable pub all_latin : ℕ → List ℕ → Bool
all_latin p [] = not (is_lead p)
all_latin p (b ∷ t) = may_follow p b && all_latin b t

-- the bytes of a character whose upper case is neither itself nor 32 below it: U+00B5, U+00DF, U+00FF
unfoldable pub is_odd : ℕ → ℕ → Bool
is_odd p b = eqb p 0xC2 && eqb b 0xB5 || eqb p 0xC3 && (eqb b 0x9F || eqb b 0xBF)

-- whether there is none, behind a byte that stands before them
unfoldable pub none_odd : ℕ → List ℕ → Bool
none_odd p [] = true
none_odd p (b ∷ t) = not (is_odd p b) && none_odd b t

-- a byte in upper case behind another: U+00E0..FE without U+00F7 lose 32 in their second byte
unfoldable pub raised : ℕ → ℕ → ℕ
raised p b = pick (eqb p 0xC3 && (leb 0xA0 b && not (eqb b 0xB7))) (b - 32) (plain_byte true b)

-- each byte, behind a byte that stands before them
unfoldable pub raised_all : ℕ → List ℕ → List ℕ
raised_all p [] = []
raised_all p (b ∷ t) = raised p b ∷ raised_all b t
