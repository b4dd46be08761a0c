-- What stands at a place of a text, and the text from there on. Assumes nothing.
use mathlib.Core.Path.{◌≡◌, refl, sym, ap, ◌∙◌}
use Prim.Native.Nat.{ℕ, suc, ◌+◌, ◌-◌, ◌<◌}
use native.Mathlib.Decide.{dec_lt}
use native.Mathlib.Numerals.{add-one}
use native.Mathlib.Nat.{add-zero}
use native.Mathlib.Omega.{arith}
use mathlib.Core.List.{List, [], ◌∷◌, ◌++◌, append_assoc}
use lib.ListN.{length, get_or, take, drop, length-drop, drop_of_length-le, get_or-eq_default}
use lib.Seq.{take_all, get_or-drop, drop-cons, drop-drop}

module _ (s : List ℕ) (at : ℕ) where
  -- the first byte from a place on is the byte there
  pub here : get_or (drop at s) 0 0 ≡ get_or s at 0
  here = get_or-drop at s 0 0 ∙ ap (λ (n : ℕ). get_or s n 0) (add-zero at)

  -- a part of a slice that starts at a place
  pub rest : take (length s - at) (drop at s) ≡ drop at s
  rest = take_all (length s - at) (drop at s) (omega (arith, length-drop at s))

  -- a byte that is not zero stands within the text
  pub inside : {c : ℕ} → get_or s at 0 ≡ c → 0 < c → at < length s
  inside e h = elim (dec_lt at (length s)) [ yes l ↦ l | no n ↦ absurd (omega (arith, sym e ∙ get_or-eq_default s 0 {n = at} (omega arith))) ]

  -- one byte is left
  pub last : at < length s → length s - at ≡ 1 → drop at s ≡ get_or s at 0 ∷ []
  last h e = drop-cons s at 0 h ∙ ap (λ (l : List ℕ). get_or s at 0 ∷ l) (drop_of_length-le s {i = suc at} (omega arith))

  -- more than one is left
  pub more : at < length s → (length s - at ≡ 1 → ⊥) → drop at s ≡ get_or s at 0 ∷ get_or s (suc at) 0 ∷ drop (suc (suc at)) s
  more h n = drop-cons s at 0 h ∙ ap (λ (l : List ℕ). get_or s at 0 ∷ l) (drop-cons s (suc at) 0 (omega (arith, n)))

-- from a place on, the text is this
pub record From (s : List ℕ) (at : ℕ) (l : List ℕ) : Type 0 where
  pub is : drop at s ≡ l

-- a text in two parts
pub record Split (l t r : List ℕ) : Type 0 where
  pub is : l ≡ t ++ r

module _ {s l : List ℕ} {at : ℕ} (f : From s at l) where
  -- the byte at the place
  pub first : get_or s at 0 ≡ get_or l 0 0
  first = sym (here s at) ∙ ap (λ (x : List ℕ). get_or x 0 0) f.is

  -- so many bytes on
  pub further : (k : ℕ) → From s (at + k) (drop k l)
  further k = record { is = sym (drop-drop k at s) ∙ ap (drop k) f.is }

  -- the same place by another sum
  pub moved : {to : ℕ} → at ≡ to → From s to l
  moved e = record { is = ap (λ (k : ℕ). drop k s) (sym e) ∙ f.is }

-- one part, and another behind it
pub joined : {l t m u r : List ℕ} → Split l t m → Split m u r → Split l (t ++ u) r
joined {l} {t} {m} {u} {r} f g = record { is = f.is ∙ ap (λ (x : List ℕ). t ++ x) g.is ∙ sym (append_assoc t u r) }

-- nothing was taken
pub none-taken : {l : List ℕ} → Split l [] l
none-taken = record { is = refl }

-- a byte that is not zero, and what stands behind it
pub one-taken : (s : List ℕ) (at : ℕ) {c : ℕ} → get_or s at 0 ≡ c → 0 < c → Split (drop at s) (c ∷ []) (drop (at + 1) s)
one-taken s at {c} e h = record { is = rw (add-one at) (drop-cons s at 0 (inside s at e h) ∙ ap {B = List ℕ} (λ (x : ℕ). x ∷ drop (suc at) s) e) }
