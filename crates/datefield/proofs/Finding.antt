-- The first byte of a value, by what stands at a place.
-- Assumes nothing.
use mathlib.Core.Path.{◌≡◌, sym}
use mathlib.Core.List.{List}
use Prim.Native.Nat.{ℕ, ◌+◌, ◌≤◌, ◌<◌}
use native.Mathlib.Numerals.{add-one}
use native.Mathlib.Omega.{arith}
use borrow.Author.Tests.{eq-eqb, ne_eqb}
use lib.ListN.{length, get_or, drop, drop_of_length-le, get_or-eq_default}
use lib.Seq.{drop-cons}
use Rattle.chars.specs.Pick.{pick}
use Rattle.datefield.specs.Text.{first_of, last_byte}

module _ (b : ℕ) (s : List ℕ) (i : ℕ) where
  pub first-here : i < length s → get_or s i 0 ≡ b → first_of b (drop i s) ≡ 0
  unfolding first_of pick
  first-here h e = rw (drop-cons s i 0 h, eq-eqb _ _ e)

  pub first_on : i < length s → (get_or s i 0 ≡ b → ⊥) → i + first_of b (drop i s) ≡ i + 1 + first_of b (drop (i + 1) s)
  unfolding first_of pick
  first_on h n = rw (add-one, drop-cons s i 0 h, ne_eqb _ _ n) (omega arith)

  pub first-none : length s ≤ i → first_of b (drop i s) ≡ 0
  unfolding first_of
  first-none h = rw (drop_of_length-le s h)

-- the last byte of the empty text
pub last_none : (s : List ℕ) → length s ≡ 0 → 0 ≡ last_byte s
unfolding last_byte
last_none s h = sym (get_or-eq_default s 0 (omega arith))
