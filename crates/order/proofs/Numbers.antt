-- The order of two numbers: which of its three answers it gives, and what that says. Assumes nothing.
use mathlib.Core.Path.{◌≡◌, refl, sym, ap, ◌∙◌}
use mathlib.Core.Bool.{Bool, true, false}
use Prim.Native.Nat.{ℕ, ◌≤◌, ◌<◌}
use native.Mathlib.Omega.{arith}
use lib.IntN.{ℤ, pos}
use lib.Signed.{lt_z}
use borrow.Author.Tests.{ltb-true, ltb-false, lt-ltb, le-ltb}
use Rattle.chars.specs.Pick.{pick}
use Rattle.dates.proofs.Less.{lt-asym, lt_same, irrefl}
use Rattle.std.specs.Prelude.{◌≢◌, Option, Some, cond, nat_lt}
use Rattle.std.specs.Ordering.{MatchOrdering, int_cmp, nat_cmp}
use Rattle.std.specs.Cmp.{nat_cmp_is}
use Rattle.std.specs.declared.cmp.Ordering.{Ordering}
use Rattle.std.specs.declared.cmp.Ordering.TheVariants.{Equal, Greater, Less}
use Rattle.order.specs.Order.{number_order, in_turn}

-- the three answers, with what each says
pub data Cases (a b : ℤ) : Option Ordering → Type 0 where
  less : lt_z a b ≡ true → Cases a b (Some Less)
  equal : a ≡ b → Cases a b (Some Equal)
  greater : lt_z b a ≡ true → Cases a b (Some Greater)

pub cases : (a b : ℤ) → Cases a b (number_order a b)
unfolding number_order pick
cases a b = go (lt_z a b) refl (lt_z b a) refl
  where
    go : (t : Bool) → lt_z a b ≡ t → (u : Bool) → lt_z b a ≡ u → Cases a b (pick t (Some Less) (pick u (Some Greater) (Some Equal)))
    go true p u q = less p
    go false p true q = greater q
    go false p false q = equal (lt_same a b p q)

pub number-less : (a b : ℤ) → lt_z a b ≡ true → number_order a b ≡ (Some Less)
unfolding number_order pick
number-less a b h = rw h

pub number-greater : (a b : ℤ) → lt_z b a ≡ true → number_order a b ≡ (Some Greater)
unfolding number_order pick
number-greater a b h = rw (lt-asym b a h, h)

pub number_same : (a : ℤ) → number_order a a ≡ (Some Equal)
unfolding number_order pick
number_same a = rw (irrefl a)

pub number-equal : (a b : ℤ) → lt_z a b ≡ false → lt_z b a ≡ false → number_order a b ≡ (Some Equal)
unfolding number_order pick
number-equal a b p q = rw (p, q)

-- the same of stored months and days
module _ (m n : ℕ) where
  pub stored-less : m < n → number_order (pos m) (pos n) ≡ (Some Less)
  stored-less h = number-less (pos m) (pos n) (lt-ltb m n h)

  pub stored-greater : n < m → number_order (pos m) (pos n) ≡ (Some Greater)
  stored-greater h = number-greater (pos m) (pos n) (lt-ltb n m h)

  pub stored-equal : n ≤ m → m ≤ n → number_order (pos m) (pos n) ≡ (Some Equal)
  stored-equal g h = number-equal (pos m) (pos n) (le-ltb m n g) (le-ltb n m h)

-- and of what `cmp` answers, at signed numbers and at stored months and days
pub signed-order : (a b : ℤ) → Some (int_cmp a b) ≡ number_order a b
unfolding number_order pick
signed-order a b = go (lt_z a b) (lt_z b a)
  where
    go : (t u : Bool) → Some (cond t Less (cond u Greater Equal)) ≡ pick t (Some Less) (pick u (Some Greater) (Some Equal))
    go true u = refl
    go false true = refl
    go false false = refl

pub stored-order : (m n : ℕ) → Some (nat_cmp m n) ≡ number_order (pos m) (pos n)
stored-order m n = ap Some (sym (nat_cmp_is m n (int_cmp (pos m) (pos n)) (ranks m n (nat_lt m n) refl (nat_lt n m) refl))) ∙ signed-order (pos m) (pos n)
  where
    ranks : (m n : ℕ) (t : Bool) → nat_lt m n ≡ t → (u : Bool) → nat_lt n m ≡ u → MatchOrdering (cond t Less (cond u Greater Equal)) (m < n) (m ≡ n) (n < m)
    ranks m n true p u q = ltb-true m n p
    ranks m n false p true q = ltb-true n m q
    ranks m n false p false q = omega (arith, ltb-false m n p, ltb-false n m q)

-- what is not equal is followed by nothing
pub next-unequal : (o : Ordering) (next : Option Ordering) → (o ≢ Equal) → in_turn (Some o) next ≡ Some o
unfolding in_turn
next-unequal Less next h = refl
next-unequal Equal next h = absurd (h refl)
next-unequal Greater next h = refl
