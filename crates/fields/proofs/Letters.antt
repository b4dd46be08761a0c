-- Whether a text is a name in any mixture of cases, letter by letter.
-- Assumes nothing.
use mathlib.Core.Path.{◌≡◌, refl, ap}
use mathlib.Core.Bool.{false}
use mathlib.Core.List.{List, [], ◌∷◌}
use Prim.Native.Nat.{ℕ, suc, ◌+◌, ◌≤◌, ◌<◌}
use native.Mathlib.Decide.{dec_le}
use native.Mathlib.Numerals.{add-one}
use native.Mathlib.Omega.{arith}
use Rattle.std.proofs.Math.Bool.{and-false}
use borrow.Author.Tests.{eq-eqb, ne_eqb, le-leb, lt-leb}
use lib.Dec.{eqb, leb}
use lib.ListN.{length, get_or, drop, drop_of_length-le}
use lib.Seq.{drop-cons}
use Rattle.fields.specs.Names.{lower, same_letters}

-- a text that is longer or shorter than the name
pub letters_other_length : (name t : List ℕ) → (length t ≡ length name → ⊥) → same_letters name t ≡ false
unfolding same_letters
letters_other_length [] [] n = absurd (n refl)
letters_other_length [] (b ∷ t) n = refl
letters_other_length (x ∷ name) [] n = refl
letters_other_length (x ∷ name) (b ∷ t) n = rw (letters_other_length name t (λ e. n (ap suc e))) (and-false (eqb x (lower b)))

module _ (name t : List ℕ) (i : ℕ) (h : i < length name) where
  -- the text is over before the name is
  pub letters-short : length t ≤ i → same_letters (drop i name) (drop i t) ≡ false
  unfolding same_letters
  letters-short l = rw (drop-cons name i 0 h, drop_of_length-le t l)

  module _ (b : ℕ) (l : i < length t) (e : b ≡ lower (get_or t i 0)) where
    -- another letter
    pub letters-not : (get_or name i 0 ≡ b → ⊥) → same_letters (drop i name) (drop i t) ≡ false
    unfolding same_letters
    letters-not n = rw (drop-cons name i 0 h, drop-cons t i 0 l, ← e, ne_eqb _ _ n)

    -- the same letter: on behind it
    pub letters-on : get_or name i 0 ≡ b → same_letters (drop i name) (drop i t) ≡ same_letters (drop (i + 1) name) (drop (i + 1) t)
    unfolding same_letters
    letters-on n = rw (add-one, drop-cons name i 0 h, drop-cons t i 0 l, ← e, eq-eqb _ _ n)

-- the name is over: the text must be too
pub letters-end : (name t : List ℕ) (i : ℕ) → length name ≤ i → same_letters (drop i name) (drop i t) ≡ leb (length t) i
unfolding same_letters
letters-end name t i h =
    elim (dec_le (length t) i) [
      | yes l ↦ rw (drop_of_length-le name h, drop_of_length-le t l, le-leb (length t) i l)
      | no l ↦ rw (drop_of_length-le name h, drop-cons t i 0 (omega arith), lt-leb (length t) i (omega arith))
    ]
