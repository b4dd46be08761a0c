-- What the classes say of ASCII, and of a code past a range. Assumes nothing.
use mathlib.Core.Path.{◌≡◌}
use mathlib.Core.Bool.{true, false}
use Prim.Native.Nat.{ℕ, ◌<◌}
use native.Mathlib.Omega.{arith}
use lib.Dec.{leb}
use borrow.Author.Tests.{le-leb, lt-leb, ne_eqb}
use Rattle.chars.specs.Classes.{within, is_admitted, is_wide_space, is_whitespace}
use Rattle.chars.proofs.Cases.{of_test}

-- a code past a range is not in it
pub within-past : (a b n : ℕ) → b < n → within a b n ≡ false
unfolding within
within-past a b n h = of_test (leb a n) (λ (e : leb a n ≡ true). rw (e, lt-leb n b h)) (λ (e : leb a n ≡ false). rw e)

-- every ASCII character is read
pub ascii-admitted : (b : ℕ) → b < 0x80 → is_admitted b ≡ true
unfolding is_admitted
ascii-admitted b h = rw (le-leb b 0xFF (omega arith))

-- the typesetter's white space lies far above
not_wide : (b : ℕ) → b < 0x80 → is_wide_space b ≡ false
unfolding within
not_wide b h =
    rw (
      lt-leb 0x2000 b (omega arith),
      lt-leb 0x2028 b (omega arith),
      ne_eqb b 0x202F (λ (e : b ≡ 0x202F). omega arith),
      ne_eqb b 0x205F (λ (e : b ≡ 0x205F). omega arith),
    )

-- a printing character is no white space
pub printing-not-white : (b : ℕ) → 0x20 < b → b < 0x80 → is_whitespace b ≡ false
unfolding is_whitespace
printing-not-white b l h =
    rw (
      within-past 0x09 0x0D b (omega arith),
      ne_eqb b 0x20 (λ (e : b ≡ 0x20). omega arith),
      ne_eqb b 0x85 (λ (e : b ≡ 0x85). omega arith),
      ne_eqb b 0xA0 (λ (e : b ≡ 0xA0). omega arith),
      not_wide b h,
    )
