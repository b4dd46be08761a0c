-- The well-formed byte sequences of a character, as the Unicode Standard's table of them has them (section 3.9, Table 3-7), row by row.
-- `Rattle.chars.proofs.Table` proves that they are just what `decode_at` takes for a character.
use Rattle.std.specs.Prelude.{ℕ, ◌≤◌, List, [], ◌∷◌, ◌++◌, length}
use Rattle.chars.specs.Utf8.{code2, code3, code4}

-- a byte from the first number to the second
pub record In (lo hi b : ℕ) : Type 0 where
  -- not below the first
  pub low : lo ≤ b
  -- not above the second
  pub high : b ≤ hi

-- the rows, with the codes that they are for: bytes, and the code that their payload bits make
pub data WellFormed : List ℕ → ℕ → Type 0 where
  -- U+0000..U+007F
  row1 : {a : ℕ} → In 0x00 0x7F a → WellFormed (a ∷ []) a
  -- U+0080..U+07FF
  row2 : {a b : ℕ} → In 0xC2 0xDF a → In 0x80 0xBF b → WellFormed (a ∷ b ∷ []) (code2 a b)
  -- U+0800..U+0FFF
  row3 : {a b c : ℕ} → In 0xE0 0xE0 a → In 0xA0 0xBF b → In 0x80 0xBF c → WellFormed (a ∷ b ∷ c ∷ []) (code3 a b c)
  -- U+1000..U+CFFF
  row4 : {a b c : ℕ} → In 0xE1 0xEC a → In 0x80 0xBF b → In 0x80 0xBF c → WellFormed (a ∷ b ∷ c ∷ []) (code3 a b c)
  -- U+D000..U+D7FF
  row5 : {a b c : ℕ} → In 0xED 0xED a → In 0x80 0x9F b → In 0x80 0xBF c → WellFormed (a ∷ b ∷ c ∷ []) (code3 a b c)
  -- U+E000..U+FFFF
  row6 : {a b c : ℕ} → In 0xEE 0xEF a → In 0x80 0xBF b → In 0x80 0xBF c → WellFormed (a ∷ b ∷ c ∷ []) (code3 a b c)
  -- U+10000..U+3FFFF
  row7 : {a b c d : ℕ} → In 0xF0 0xF0 a → In 0x90 0xBF b → In 0x80 0xBF c → In 0x80 0xBF d → WellFormed (a ∷ b ∷ c ∷ d ∷ []) (code4 a b c d)
  -- U+40000..U+FFFFF
  row8 : {a b c d : ℕ} → In 0xF1 0xF3 a → In 0x80 0xBF b → In 0x80 0xBF c → In 0x80 0xBF d → WellFormed (a ∷ b ∷ c ∷ d ∷ []) (code4 a b c d)
  -- U+100000..U+10FFFF
  row9 : {a b c d : ℕ} → In 0xF4 0xF4 a → In 0x80 0x8F b → In 0x80 0xBF c → In 0x80 0xBF d → WellFormed (a ∷ b ∷ c ∷ d ∷ []) (code4 a b c d)

-- a text that begins with a row's bytes: the code, and how many bytes it has
pub data Begins : List ℕ → ℕ → ℕ → Type 0 where
  -- anything may stand behind them
  begins : {s : List ℕ} {c : ℕ} (t : List ℕ) → WellFormed s c → Begins (s ++ t) c (length s)
