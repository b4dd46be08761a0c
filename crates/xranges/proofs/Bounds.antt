-- How large the years of a range are.
-- Assumes nothing.
use Prim.Native.Nat.{ℕ, ◌-◌, ◌*◌, ◌^◌, ◌≤◌, ◌<◌}
use native.Mathlib.Nat.{pow-le-pow_right, mul-le-mul}
use native.Mathlib.Omega.{arith}
use lib.Dec.{lit<}

-- one to ten thousand years
pub tens : (n : ℕ) → (0 < 10 ^ (4 - n)) × (10 ^ (4 - n) < 10001)
tens n =
    let l : 0 ≤ 4 - n = omega arith in
    let h : 4 - n ≤ 4 = omega arith in
    (omega (arith, pow-le-pow_right {n = 10} (lit< tt) l), omega (arith, pow-le-pow_right {n = 10} (lit< tt) h))

-- the first of them
pub bounded : (digits variable : ℕ) → digits < 10000 → variable < 10001 → digits * variable < 100000000
bounded digits variable h l =
    let a : digits ≤ 9999 = omega arith in
    let b : variable ≤ 10000 = omega arith in
    omega (arith, mul-le-mul a b)
