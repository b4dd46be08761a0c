-- Which bytes are of a class of digits, and of a class of one character.
-- Assumes nothing.
use mathlib.Core.Path.{◌≡◌, refl}
use mathlib.Core.Bool.{true, false}
use Prim.Native.Nat.{ℕ, ◌≤◌, ◌<◌}
use native.Mathlib.Omega.{arith}
use borrow.Author.Tests.{le-leb, lt-leb, eq-eqb, ne_eqb}
use Rattle.chars.specs.Classes.{within, is_ascii_digit, is_numeric}
use Rattle.scanner.specs.declared.Class.TheVariants.{Numeric, AsciiDigit, Is}
use Rattle.scanner.specs.Class.{in_class}

module _ (b : ℕ) (l : 0x30 ≤ b) (h : b ≤ 0x39) where
  -- a digit's byte is a digit
  pub digit-ascii : in_class AsciiDigit b ≡ true
  unfolding in_class is_ascii_digit within
  digit-ascii = rw (le-leb 0x30 b l, le-leb b 0x39 h)

  -- and numeric
  pub digit-numeric : in_class Numeric b ≡ true
  unfolding in_class is_numeric is_ascii_digit within
  digit-numeric = rw (le-leb 0x30 b l, le-leb b 0x39 h)

-- what stands before the digits, or behind them, is none
pub below-digits : (b : ℕ) → b < 0x30 → in_class AsciiDigit b ≡ false
unfolding in_class is_ascii_digit within
below-digits b h = rw (lt-leb 0x30 b h)

pub above-digits : (b : ℕ) → 0x39 < b → in_class AsciiDigit b ≡ false
unfolding in_class is_ascii_digit within
above-digits b h = rw (le-leb 0x30 b (omega arith), lt-leb b 0x39 h)

-- no other ASCII character is numeric
pub no-numeric : (b : ℕ) → b < 0x80 → in_class AsciiDigit b ≡ false → in_class Numeric b ≡ false
unfolding in_class is_numeric within
no-numeric b h n =
    rw (n, lt-leb 0xB2 b (omega arith), ne_eqb b 0xB9 (λ (e : b ≡ 0xB9). omega arith), lt-leb 0xBC b (omega arith))

-- a character is of its own class
pub is-it : (c : ℕ) → in_class (Is c) c ≡ true
unfolding in_class
is-it c = eq-eqb c c refl

-- and no other is
pub is-other : (c b : ℕ) → (b ≡ c → ⊥) → in_class (Is c) b ≡ false
unfolding in_class
is-other c b n = ne_eqb b c n
