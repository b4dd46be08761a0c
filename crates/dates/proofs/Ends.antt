-- Laws of the ends of a point or range. Assumes nothing.
use mathlib.Core.Path.{◌≡◌, refl}
use mathlib.Core.Bool.{Bool, true, false, false≢true, ◌||◌}
use mathlib.Core.Logic.{◌↔◌, ◌⊎◌, inl, inr}
use Rattle.dates.specs.declared.Datetime.{Datetime}
use Rattle.dates.specs.declared.DateValue.{DateValue}
use Rattle.dates.specs.declared.DateValue.TheVariants.{At, After, Before, Between}
use Rattle.dates.specs.Ends.{any_end, EachEnd, SomeEnd}

-- what a test of two ends says
either : (a : Bool) {b : Bool} → a || b ≡ true → (a ≡ true) ⊎ (b ≡ true)
either true e = inl refl
either false e = inr e

one_of : (a : Bool) {b : Bool} → (a ≡ true) ⊎ (b ≡ true) → a || b ≡ true
one_of true e = refl
one_of false (inl e) = absurd (false≢true e)
one_of false (inr e) = e

-- a test that tells what holds of an end tells what holds of one of the ends
module _ {test : Datetime → Bool} {P : Datetime → Type 0} (tells : (d : Datetime) → (test d ≡ true) ↔ P d) where
  pub any-end : (v : DateValue) → (any_end test v ≡ true) ↔ SomeEnd P v
  any-end (At d) = tells d
  any-end (After d) = tells d
  any-end (Before d) = tells d
  any-end (Between a b) = (λ e. there (either (test a) e), λ p. one_of (test a) (back p))
    where
      there : (test a ≡ true) ⊎ (test b ≡ true) → P a ⊎ P b
      there (inl e) = inl ((tells a).0 e)
      there (inr e) = inr ((tells b).0 e)

      back : P a ⊎ P b → (test a ≡ true) ⊎ (test b ≡ true)
      back (inl p) = inl ((tells a).1 p)
      back (inr p) = inr ((tells b).1 p)

-- where every end fails a test none passes it
pub no_end : {test : Datetime → Bool} {P : Datetime → Type 0} → ((d : Datetime) → P d → test d ≡ false) → (v : DateValue) → EachEnd P v → any_end test v ≡ false
no_end f (At d) p = f d p
no_end f (After d) p = f d p
no_end f (Before d) p = f d p
no_end f (Between a b) p = rw (f a p.0, f b p.1)

-- what follows of an end follows of every end
pub each-end : {P Q : Datetime → Type 0} → ((d : Datetime) → P d → Q d) → (v : DateValue) → EachEnd P v → EachEnd Q v
each-end f (At d) p = f d p
each-end f (After d) p = f d p
each-end f (Before d) p = f d p
each-end f (Between a b) p = (f a p.0, f b p.1)
