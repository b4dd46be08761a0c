-- The ASCII characters of a class that `eat_while` passes quickly.
-- Assumes nothing.
use Prim.Native.Nat.{ℕ, ◌≤◌, ◌<◌}
use native.Mathlib.Omega.{arith}
use borrow.Author.Tests.{le-leb, eq-eqb, lt-leb}
use lib.Dec.{lit<}
use Rattle.chars.specs.Classes.{within, is_ascii_alphabetic}
use Rattle.scanner.specs.declared.Class.{Class}
use Rattle.scanner.specs.declared.Class.TheVariants.{Numeric, AsciiDigit, AsciiAlphabetic, Separator, Is}
use Rattle.scanner.specs.Class.{in_class}
use Rattle.scanner.specs.Quick.{Quick}
use Rattle.scanner.proofs.Digits.{digit-ascii, digit-numeric}

-- no bytes at all
pub quick-none : (k : Class) → Quick k 1 0
quick-none k = record { ascii = lit< tt; each = λ (b : ℕ) (l : 1 ≤ b) (h : b ≤ 0). absurd (omega arith) }

pub quick-digits : Quick AsciiDigit 0x30 0x39
quick-digits = record { ascii = lit< tt; each = digit-ascii }

pub quick-numeric : Quick Numeric 0x30 0x39
quick-numeric = record { ascii = lit< tt; each = digit-numeric }

pub quick-letters : Quick AsciiAlphabetic 0x61 0x7A
unfolding in_class is_ascii_alphabetic within
quick-letters = record { ascii = lit< tt; each = λ (b : ℕ) (l : 0x61 ≤ b) (h : b ≤ 0x7A). rw (le-leb 0x41 b (omega arith), lt-leb b 0x5A (omega arith), le-leb 0x61 b l, le-leb b 0x7A h) }

pub quick-hyphens : Quick Separator 0x2D 0x2D
unfolding in_class
quick-hyphens = record { ascii = lit< tt; each = λ (b : ℕ) (l : 0x2D ≤ b) (h : b ≤ 0x2D). rw (eq-eqb b 0x2D (omega arith)) }

pub quick-one : (c : ℕ) → c < 128 → Quick (Is c) c c
unfolding in_class
quick-one c l = record { ascii = l; each = λ (b : ℕ) (g : c ≤ b) (h : b ≤ c). rw (eq-eqb b c (omega arith)) }
