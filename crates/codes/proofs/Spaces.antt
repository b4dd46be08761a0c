-- Spaces at a text's end: one is taken off, and any other byte stays.
-- Assumes nothing.
use mathlib.Core.Path.{◌≡◌, refl, sym, ap, ◌∙◌}
use mathlib.Core.Bool.{Bool, true, false, ◌&&◌}
use mathlib.Core.List.{List, [], ◌∷◌}
use Prim.Native.Nat.{ℕ, zero, suc, ◌+◌, ◌-◌, ◌≤◌, ◌<◌}
use native.Mathlib.Numerals.{add-one}
use native.Mathlib.Omega.{arith}
use borrow.Author.Tests.{eq-eqb, ne_eqb}
use lib.Dec.{eqb}
use lib.ListN.{length, get_or, take}
use Rattle.chars.specs.Pick.{pick}
use Rattle.codes.specs.Texts.{are_spaces, unspaced}

and-false : (a : Bool) → (a && false) ≡ false
and-false true = refl
and-false false = refl

-- a space behind a text
still-spaces : (n : ℕ) (s : List ℕ) → n < length s → get_or s n 0 ≡ 0x20 → are_spaces (take (suc n) s) ≡ are_spaces (take n s)
unfolding are_spaces
still-spaces n [] h e = absurd (omega arith)
still-spaces zero (x ∷ s) h e = rw (eq-eqb x 0x20 e)
still-spaces (suc n) (x ∷ s) h e = rw (still-spaces n s (omega arith) e)

off : (n : ℕ) (s : List ℕ) → n < length s → get_or s n 0 ≡ 0x20 → unspaced (take (suc n) s) ≡ unspaced (take n s)
unfolding are_spaces unspaced pick
off n [] h e = absurd (omega arith)
off zero (x ∷ s) h e = rw (eq-eqb x 0x20 e)
off (suc n) (x ∷ s) h e = rw (still-spaces n s (omega arith) e, off n s (omega arith) e)

-- another byte behind a text
no-spaces : (n : ℕ) (s : List ℕ) → n < length s → eqb (get_or s n 0) 0x20 ≡ false → are_spaces (take (suc n) s) ≡ false
unfolding are_spaces
no-spaces n [] h e = absurd (omega arith)
no-spaces zero (x ∷ s) h e = rw e
no-spaces (suc n) (x ∷ s) h e = rw (no-spaces n s (omega arith) e) (and-false (eqb x 0x20))

kept : (n : ℕ) (s : List ℕ) → n < length s → eqb (get_or s n 0) 0x20 ≡ false → unspaced (take (suc n) s) ≡ take (suc n) s
unfolding are_spaces unspaced pick
kept n [] h e = absurd (omega arith)
kept zero (x ∷ s) h e = rw e
kept (suc n) (x ∷ s) h e = rw (no-spaces n s (omega arith) e, and-false (eqb x 0x20), kept n s (omega arith) e)

-- one more is a space
pub space-behind : (s : List ℕ) (n : ℕ) → n < length s → get_or s n 0 ≡ 0x20 → unspaced (take (n + 1) s) ≡ unspaced (take n s)
space-behind s n h e = rw add-one (off n s h e)

-- the bytes before a place, by the last of them
module _ (s : List ℕ) (n : ℕ) (p : 0 < n) (h : n ≤ length s) where
  one_less : n ≡ suc (n - 1)
  one_less = omega arith

  pub space-before : get_or s (n - 1) 0 ≡ 0x20 → unspaced (take n s) ≡ unspaced (take (n - 1) s)
  space-before e = ap (λ (k : ℕ). unspaced (take k s)) one_less ∙ off (n - 1) s (omega arith) e

  pub byte-before : (get_or s (n - 1) 0 ≡ 0x20 → ⊥) → unspaced (take n s) ≡ take n s
  byte-before e =
      ap (λ (k : ℕ). unspaced (take k s)) one_less
      ∙ kept (n - 1) s (omega arith) (ne_eqb (get_or s (n - 1) 0) 0x20 e)
      ∙ ap (λ (k : ℕ). take k s) (sym one_less)

-- there are none
pub none_before : (s : List ℕ) (n : ℕ) → n ≤ 0 → take n s ≡ unspaced (take n s)
unfolding unspaced
none_before s n h = let z : n ≡ 0 = omega arith in rw z

pub no_bytes : (s : List ℕ) → length s ≡ 0 → [] ≡ unspaced s
unfolding unspaced
no_bytes [] h = refl
no_bytes (x ∷ s) h = absurd (omega arith)
