-- The tests of two numbers with their signs, as an order. Assumes nothing.
use mathlib.Core.Path.{◌≡◌, refl, ap}
use mathlib.Core.Bool.{true, false, false≢true}
use Prim.Native.Nat.{ℕ}
use native.Mathlib.Omega.{arith}
use lib.IntN.{ℤ, pos, negsuc}
use lib.Signed.{lt_z, le_z}
use borrow.Author.Tests.{lt-ltb, le-ltb, lt-leb, ltb-true, ltb-false}

pub lt_trans : (a b c : ℤ) → lt_z a b ≡ true → lt_z b c ≡ true → lt_z a c ≡ true
lt_trans (pos a) (pos b) (pos c) h k = lt-ltb a c (omega (arith, ltb-true a b h, ltb-true b c k))
lt_trans (pos a) (pos b) (negsuc c) h k = k
lt_trans (pos a) (negsuc b) c h k = absurd (false≢true h)
lt_trans (negsuc a) (pos b) (pos c) h k = refl
lt_trans (negsuc a) (pos b) (negsuc c) h k = absurd (false≢true k)
lt_trans (negsuc a) (negsuc b) (pos c) h k = refl
lt_trans (negsuc a) (negsuc b) (negsuc c) h k = lt-ltb c a (omega (arith, ltb-true b a h, ltb-true c b k))

pub lt-asym : (a b : ℤ) → lt_z a b ≡ true → lt_z b a ≡ false
lt-asym (pos a) (pos b) h = le-ltb b a (omega (arith, ltb-true a b h))
lt-asym (pos a) (negsuc b) h = absurd (false≢true h)
lt-asym (negsuc a) (pos b) h = refl
lt-asym (negsuc a) (negsuc b) h = le-ltb a b (omega (arith, ltb-true b a h))

-- neither below the other: the same number
pub lt_same : (a b : ℤ) → lt_z a b ≡ false → lt_z b a ≡ false → a ≡ b
lt_same (pos a) (pos b) h k = ap pos (omega (arith, ltb-false a b h, ltb-false b a k))
lt_same (pos a) (negsuc b) h k = absurd (let z : ◌≡◌ {A = ℕ} 0 1 = cc in omega arith)
lt_same (negsuc a) (pos b) h k = absurd (let z : ◌≡◌ {A = ℕ} 0 1 = cc in omega arith)
lt_same (negsuc a) (negsuc b) h k = ap negsuc (omega (arith, ltb-false b a h, ltb-false a b k))

pub irrefl : (a : ℤ) → lt_z a a ≡ false
irrefl (pos a) = le-ltb a a (omega arith)
irrefl (negsuc a) = le-ltb a a (omega arith)

-- the other test
pub lt_not_le : (a b : ℤ) → lt_z a b ≡ true → le_z b a ≡ false
lt_not_le (pos a) (pos b) h = lt-leb b a (ltb-true a b h)
lt_not_le (pos a) (negsuc b) h = absurd (false≢true h)
lt_not_le (negsuc a) (pos b) h = refl
lt_not_le (negsuc a) (negsuc b) h = lt-leb a b (ltb-true b a h)
