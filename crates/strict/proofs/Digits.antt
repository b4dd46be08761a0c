-- The range of a byte that is a digit. Assumes nothing.
use mathlib.Core.Path.{◌≡◌}
use mathlib.Core.Bool.{true}
use Prim.Native.Nat.{ℕ, ◌≤◌}
use lib.Dec.{leb}
use borrow.Author.Tests.{leb-true}
use Rattle.chars.specs.Classes.{is_ascii_digit, within}
use Rattle.chars.proofs.Cases.{and-true}

pub record Digit (c : ℕ) : Type 0 where
  pub low : 48 ≤ c
  pub high : c ≤ 57

pub digit : (c : ℕ) → is_ascii_digit c ≡ true → Digit c
unfolding is_ascii_digit within
digit c t =
    let p = and-true (leb 48 c) (leb c 57) t in
    record { low = leb-true 48 c p.0; high = leb-true c 57 p.1 }
