-- Texts without a letter.
use Rattle.std.specs.Prelude.{ℕ, ◌≡◌, List, get_or}
use Prim.Native.Char.{code}

-- a byte that stands nowhere in a text; behind a text's end there are zeros, so the byte is not zero
pub record NoByte (b : ℕ) (s : List ℕ) : Type 0 where
  -- no place has it
  pub none : (i : ℕ) → get_or s i 0 ≡ b → ⊥

-- neither T nor t
abbrev pub NoT : List ℕ → Type 0
NoT s = NoByte (code "T") s × NoByte (code "t") s

-- neither X nor x
abbrev pub NoX : List ℕ → Type 0
NoX s = NoByte (code "X") s × NoByte (code "x") s
