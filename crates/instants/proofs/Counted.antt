-- Periods, counted in natural numbers: what an answer means of them, and that no two answers hold of the same two. Assumes nothing.
use mathlib.Core.Path.{◌≡◌, refl, sym, ap, ◌∙◌}
use mathlib.Core.Bool.{false}
use mathlib.Core.Logic.{◌⊎◌, ⊎_elim, inl, inr}
use Prim.Native.Nat.{ℕ, ◌+◌, ◌-◌, ◌≤◌, ◌<◌}
use native.Mathlib.Omega.{arith}
use native.Mathlib.Decide.{dec_lt}
use borrow.Author.Tests.{lt-ltb, le-ltb, ltb-false}
use lib.Dec.{T, ltb, ltb→lt}
use lib.IntN.{ℤ}
use lib.Signed.{lt_z, ◌≤ℤ◌, ◌<ℤ◌, lt_z_yes, clash_ℤ}
use Rattle.days.specs.declared.Period.{Period}
use Rattle.days.specs.Covered.{period}
use Rattle.days.specs.Counts.{numbered}
use Rattle.days.proofs.Numbers.{numbered-less, numbered-le}
use Rattle.std.specs.Prelude.{Option, Some, None}
use Rattle.std.specs.declared.cmp.Ordering.{Ordering}
use Rattle.std.specs.declared.cmp.Ordering.TheVariants.{Equal, Greater, Less}
use Rattle.instants.specs.Stands.{Inside, Stands}

-- the period of k days from a day on
abbrev pub from : ℕ → ℕ → Period
from b k = period (numbered b) (numbered (b + (k - 1)))

-- b and k stand inside c and l, and are fewer
abbrev pub Within : ℕ → ℕ → ℕ → ℕ → Type 0
Within b k c l = (c ≤ b) × (b + k ≤ c + l) × (k < l)

-- what an answer means of k days from b on, and l days from c on
abbrev pub Counted : Option Ordering → ℕ → ℕ → ℕ → ℕ → Type 0
Counted (Some Less) b k c l = b + k ≤ c
Counted (Some Equal) b k c l = (b ≡ c) × (k ≡ l)
Counted (Some Greater) b k c l = c + l ≤ b
Counted None b k c l = Within b k c l ⊎ Within c l b k

-- ---- days and their numbers

less-on : (a b : ℕ) → a < b → numbered a <ℤ numbered b
less-on a b h = lt_z_yes (rw (numbered-less a b, lt-ltb a b h) tt)

less-back : (a b : ℕ) → numbered a <ℤ numbered b → a < b
less-back a b h = let t : T (ltb a b) = rw (numbered-less a b) at h.lt in ltb→lt a b t

le-back : (a b : ℕ) → numbered a ≤ℤ numbered b → a ≤ b
le-back a b h = elim (dec_lt b a) [ yes l ↦ clash_ℤ (less-on b a l) h | no l ↦ omega (arith, l) ]

same_back : (a b : ℕ) → numbered a ≡ numbered b → a ≡ b
same_back a b e =
    let f : ltb a b ≡ false = sym (numbered-less a b) ∙ ap (λ (z : ℤ). lt_z z (numbered b)) e ∙ numbered-less b b ∙ le-ltb b b (omega arith) in
    let g : ltb b a ≡ false = sym (numbered-less b a) ∙ ap (λ (z : ℤ). lt_z (numbered b) z) e ∙ numbered-less b b ∙ le-ltb b b (omega arith) in
    omega (arith, ltb-false a b f, ltb-false b a g)

-- ---- two periods

module _ (b k c l : ℕ) (p : 0 < k) (q : 0 < l) where
  same_from : from b k ≡ from c l → (b ≡ c) × (k ≡ l)
  same_from e =
      let f = same_back b c (ap (λ (x : Period). x.first) e) in
      let g = same_back (b + (k - 1)) (c + (l - 1)) (ap (λ (x : Period). x.last) e) in
      (f, omega arith)

  inside_on : Within b k c l → Inside (from b k) (from c l)
  inside_on w = (numbered-le c b w.0, numbered-le (b + (k - 1)) (c + (l - 1)) (omega (arith, w.1)))

  inside_back : Inside (from b k) (from c l) → (from b k ≡ from c l → ⊥) → Within b k c l
  inside_back i n =
      let f = le-back c b i.0 in
      let g = le-back (b + (k - 1)) (c + (l - 1)) i.1 in
      let fewer : k < l = elim (dec_lt k l) [
        | yes h ↦ h
        | no h ↦ absurd (n (alike (omega (arith, h)) (omega (arith, h))))
      ] in
      (f, omega arith, fewer)
    where
      alike : b ≡ c → k ≡ l → from b k ≡ from c l
      alike e f = rw (e, f)

module _ (b k c l : ℕ) (p : 0 < k) (q : 0 < l) where
  apart : (k ≡ l → ⊥) → from b k ≡ from c l → ⊥
  apart n e = n (same_from b k c l p q e).1

  pub counted-on : (o : Option Ordering) → Counted o b k c l → Stands o (from b k) (from c l)
  counted-on (Some Less) h = less-on (b + (k - 1)) c (omega arith)
  counted-on (Some Equal) h = rw (h.0, h.1)
  counted-on (Some Greater) h = less-on (c + (l - 1)) b (omega arith)
  counted-on None (inl w) = (inl (inside_on b k c l p q w), apart (λ (e : k ≡ l). omega (arith, w.2)))
  counted-on None (inr w) = (inr (inside_on c l b k q p w), apart (λ (e : k ≡ l). omega (arith, w.2)))

  pub counted_back : (o : Option Ordering) → Stands o (from b k) (from c l) → Counted o b k c l
  counted_back (Some Less) s = omega (arith, less-back (b + (k - 1)) c s)
  counted_back (Some Equal) s = same_from b k c l p q s
  counted_back (Some Greater) s = omega (arith, less-back (c + (l - 1)) b s)
  counted_back None s = ⊎_elim (λ (i : Inside (from b k) (from c l)). inl (inside_back b k c l p q i s.1)) (λ (i : Inside (from c l) (from b k)). inr (inside_back c l b k q p i (λ e. s.1 (sym e)))) s.0

  -- no two answers hold
  pub one_answer : (o r : Option Ordering) → Counted o b k c l → Counted r b k c l → o ≡ r
  one_answer (Some Less) (Some Less) h g = refl
  one_answer (Some Less) (Some Equal) h g = absurd (omega (arith, g.0))
  one_answer (Some Less) (Some Greater) h g = absurd (omega arith)
  one_answer (Some Less) None h (inl w) = absurd (omega (arith, w.0))
  one_answer (Some Less) None h (inr w) = absurd (omega (arith, w.1))
  one_answer (Some Equal) (Some Less) h g = absurd (omega (arith, h.0))
  one_answer (Some Equal) (Some Equal) h g = refl
  one_answer (Some Equal) (Some Greater) h g = absurd (omega (arith, h.0))
  one_answer (Some Equal) None h (inl w) = absurd (omega (arith, h.1, w.2))
  one_answer (Some Equal) None h (inr w) = absurd (omega (arith, h.1, w.2))
  one_answer (Some Greater) (Some Less) h g = absurd (omega arith)
  one_answer (Some Greater) (Some Equal) h g = absurd (omega (arith, g.0))
  one_answer (Some Greater) (Some Greater) h g = refl
  one_answer (Some Greater) None h (inl w) = absurd (omega (arith, w.1))
  one_answer (Some Greater) None h (inr w) = absurd (omega (arith, w.0))
  one_answer None (Some Less) (inl w) g = absurd (omega (arith, w.0))
  one_answer None (Some Less) (inr w) g = absurd (omega (arith, w.1))
  one_answer None (Some Equal) (inl w) g = absurd (omega (arith, g.1, w.2))
  one_answer None (Some Equal) (inr w) g = absurd (omega (arith, g.1, w.2))
  one_answer None (Some Greater) (inl w) g = absurd (omega (arith, w.1))
  one_answer None (Some Greater) (inr w) g = absurd (omega (arith, w.0))
  one_answer None None h g = refl
