-- Two numbers stand to each other as before when the same is added to both. Assumes nothing.
use mathlib.Core.Path.{◌≡◌, refl, sym, ap, ◌∙◌}
use mathlib.Core.Bool.{Bool, true, false}
use Prim.Native.Nat.{ℕ, zero, suc, ◌-◌}
use native.Mathlib.Omega.{arith}
use borrow.Author.Tests.{lt-ltb, le-ltb, ltb-true, ltb-false}
use lib.Dec.{ltb}
use lib.IntN.{ℤ, pos, negsuc, neg_ℤ, sub_ℕ, ◌+ℤ◌, ◌-ℤ◌, +ℤ_idl, +ℤ_assoc, +ℤ_comm, +ℤ_invr, neg_ℤ-+ℤ}
use lib.Signed.{lt_z}
use Rattle.order.specs.Order.{number_order}

-- whether a number is below zero
is_neg : ℤ → Bool
is_neg (pos n) = false
is_neg (negsuc n) = true

sub-neg : (a b : ℕ) → is_neg (sub_ℕ a b) ≡ ltb a b
unfolding is_neg
sub-neg a b = go (ltb a b)
  where
    go : (t : Bool) → is_neg (mathlib.Core.Bool.cond t (negsuc (b - suc a)) (pos (a - b))) ≡ t
    go true = refl
    go false = refl

ltb-suc : (a b : ℕ) → ltb (suc a) (suc b) ≡ ltb a b
ltb-suc a b = go (ltb a b) refl
  where
    go : (t : Bool) → ltb a b ≡ t → ltb (suc a) (suc b) ≡ t
    go true e = lt-ltb (suc a) (suc b) (omega (arith, ltb-true a b e))
    go false e = le-ltb (suc a) (suc b) (omega (arith, ltb-false a b e))

-- one is below another exactly if their difference is below zero
less-sub : (a b : ℤ) → lt_z a b ≡ is_neg (a -ℤ b)
unfolding is_neg
less-sub (pos a) (pos zero) = le-ltb a 0 (omega arith)
less-sub (pos a) (pos (suc b)) = sym (sub-neg a (suc b))
less-sub (pos a) (negsuc b) = refl
less-sub (negsuc a) (pos zero) = sym (sub-neg 0 (suc a) ∙ lt-ltb 0 (suc a) (omega arith))
less-sub (negsuc a) (pos (suc b)) = refl
less-sub (negsuc a) (negsuc b) = sym (sub-neg (suc b) (suc a) ∙ ltb-suc b a)

-- what is added to both does not change the difference
same-sub : (k u v : ℤ) → k +ℤ u -ℤ (k +ℤ v) ≡ u -ℤ v
same-sub k u v =
    ap (λ (z : ℤ). k +ℤ u +ℤ z) (neg_ℤ-+ℤ k v)
    ∙ ap (λ (z : ℤ). z +ℤ (neg_ℤ k +ℤ neg_ℤ v)) (+ℤ_comm k u)
    ∙ +ℤ_assoc u k (neg_ℤ k +ℤ neg_ℤ v)
    ∙ ap (λ (z : ℤ). u +ℤ z) (sym (+ℤ_assoc k (neg_ℤ k) (neg_ℤ v)) ∙ ap (λ (z : ℤ). z +ℤ neg_ℤ v) (+ℤ_invr k) ∙ +ℤ_idl (neg_ℤ v))

less-shift : (k u v : ℤ) → lt_z (k +ℤ u) (k +ℤ v) ≡ lt_z u v
less-shift k u v = less-sub (k +ℤ u) (k +ℤ v) ∙ ap is_neg (same-sub k u v) ∙ sym (less-sub u v)

pub number-shift : (k u v : ℤ) → number_order (k +ℤ u) (k +ℤ v) ≡ number_order u v
unfolding number_order
number-shift k u v = rw (less-shift k u v, less-shift k v u)
