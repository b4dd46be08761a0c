-- What a long year is by its digits, told by their count and their number. Assumes nothing.
use mathlib.Core.Path.{◌≡◌, sym}
use Prim.Native.Nat.{ℕ, ◌+◌, ◌≤◌, ◌<◌}
use mathlib.Core.Bool.{Bool}
use mathlib.Core.List.{List}
use lib.ListN.{get_or, take, drop}
use borrow.Author.Tests.{eq-eqb, ne_eqb, le-leb, lt-leb}
use Rattle.chars.specs.Pick.{pick}
use Rattle.std.specs.Prelude.{Some, None}
use Rattle.dates.specs.Value.{datetime}
use Rattle.chars.specs.Signs.{signed}
use Rattle.strict.specs.LevelMatcher.{run, value_from, long_at}

module _ (s : List ℕ) (at : ℕ) (negative : Bool) {k : ℕ} (e : k ≡ run 10 (drop at s)) where
  -- five to nine, the first not zero
  pub long-is : {n : ℕ} → n ≡ value_from 0 (take k (drop at s)) → 5 ≤ k → k ≤ 9 → (get_or s at 0 ≡ 48 → ⊥)
      → Some (datetime (signed negative n) None None None, at + k) ≡ long_at s at negative
  unfolding long_at pick
  long-is {n} f lo hi z = rw (sym e, f, le-leb 5 k lo, le-leb k 9 hi, ne_eqb (get_or s at 0) 48 z)

  -- a zero in front
  pub nought-first : 5 ≤ k → k ≤ 9 → get_or s at 0 ≡ 48 → None ≡ long_at s at negative
  unfolding long_at pick
  nought-first lo hi z = rw (sym e, le-leb 5 k lo, le-leb k 9 hi, eq-eqb (get_or s at 0) 48 z)

  -- more than nine
  pub too_many : 5 ≤ k → 9 < k → None ≡ long_at s at negative
  unfolding long_at pick
  too_many lo hi = rw (sym e, le-leb 5 k lo, lt-leb k 9 hi)

  -- fewer than five
  pub too_few : k < 5 → None ≡ long_at s at negative
  unfolding long_at pick
  too_few lo = rw (sym e, lt-leb 5 k lo)
