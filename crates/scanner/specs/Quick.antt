-- What the quick part of `eat_while` knows of a class. No public contract rests on it.
use Rattle.std.specs.Prelude.{ℕ, ◌≤◌, ◌<◌, ◌≡◌, true}
use Rattle.scanner.specs.declared.Class.{Class}
use Rattle.scanner.specs.Class.{in_class}

-- a class may be tested by byte from lo to hi
pub record Quick (k : Class) (lo hi : ℕ) : Type 0 where
  -- a byte up to hi is a character of its own
  pub ascii : hi < 128
  -- every byte from lo to hi is of the class
  pub each : (b : ℕ) → lo ≤ b → b ≤ hi → in_class k b ≡ true
