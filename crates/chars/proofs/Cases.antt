-- Definitions that go by tests: what is to be shown of one is shown in each of its two cases; and what a test of two parts says.
-- Assumes nothing.
use mathlib.Core.Path.{◌≡◌, refl}
use mathlib.Core.Bool.{Bool, true, false, false≢true, ◌&&◌}
use Rattle.chars.specs.Pick.{pick}

pub by-test : {A : Type 0} (P : A → Type 0) (t : Bool) {x y : A} → (t ≡ true → P x) → (t ≡ false → P y) → P (pick t x y)
unfolding pick
by-test P true f g = f refl
by-test P false f g = g refl

-- one of the two values of a test
pub of_test : {A : Type 0} (t : Bool) → (t ≡ true → A) → (t ≡ false → A) → A
of_test true f g = f refl
of_test false f g = g refl

-- both parts of a test that holds
pub and-true : (p q : Bool) → p && q ≡ true → (p ≡ true) × (q ≡ true)
and-true true q e = (refl, e)
and-true false q e = absurd (false≢true e)
