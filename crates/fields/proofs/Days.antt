-- What is known of a number that is a day.
-- Assumes nothing.
use mathlib.Core.Path.{◌≡◌}
use mathlib.Core.Bool.{true}
use Prim.Native.Nat.{ℕ, ◌≤◌}
use borrow.Author.Tests.{leb-true}
use lib.Dec.{leb}
use Rattle.chars.proofs.Cases.{and-true}
use Rattle.fields.specs.Day.{is_day}

pub day_in : (d : ℕ) → is_day d ≡ true → (1 ≤ d) × (d ≤ 31)
unfolding is_day
day_in d e = let h = and-true (leb 1 d) (leb d 31) e in (leb-true 1 d h.0, leb-true d 31 h.1)
