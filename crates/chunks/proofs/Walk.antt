-- The characters of a text by what stands at a place of it, and what callers use of them: no fuel is seen from outside.
-- Assumes nothing.
use mathlib.Core.Path.{◌≡◌, refl, sym, ap, ◌∙◌}
use mathlib.Core.List.{List, [], ◌∷◌}
use Prim.Native.Nat.{ℕ, zero, suc, ◌+◌, ◌≤◌, ◌<◌}
use native.Mathlib.Omega.{arith}
use lib.ListN.{length, drop, length-drop}
use lib.Seq.{drop-drop}
use Rattle.chars.specs.Utf8.{first, decode_at}
use Rattle.chars.specs.declared.Decoded.{Decoded}
use Rattle.chars.specs.declared.Decoded.TheVariants.{Char, Bad, End}
use Rattle.chars.proofs.Laws.{Sound, first-sound}
use Rattle.chars.proofs.Laws.Sound.{char, bad, end}
use Rattle.chunks.specs.Characters.{and_then, up_to, characters, codes_of, codes}

-- what follows a character is looked at behind it only
after : {t : List ℕ} {d : Decoded} → Sound t d → (r r' : ℕ → List Decoded) → ((k : ℕ) → 0 < k → r k ≡ r' k) → and_then d r ≡ and_then d r'
unfolding and_then
after (char {k} {code} a b c d) r r' h = ap (λ (l : List Decoded). Char code k ∷ l) (h k a)
after bad r r' h = refl
after end r r' h = refl

none_left : (n : ℕ) → up_to n [] ≡ []
unfolding up_to and_then first
none_left zero = refl
none_left (suc n) = refl

-- with as many turns as there are bytes, more turns change nothing
enough : (n m : ℕ) (t : List ℕ) → length t ≤ n → length t ≤ m → up_to n t ≡ up_to m t
unfolding up_to
enough zero m [] hn hm = sym (none_left m)
enough zero m (a ∷ t) hn hm = absurd (omega arith)
enough (suc n) zero [] hn hm = none_left (suc n)
enough (suc n) zero (a ∷ t) hn hm = absurd (omega arith)
enough (suc n) (suc m) t hn hm =
    after (first-sound t) (λ k. up_to n (drop k t)) (λ k. up_to m (drop k t))
    (λ k l. enough n m (drop k t) (omega (arith, length-drop k t)) (omega (arith, length-drop k t)))

-- the characters of a text are what it begins with, and then those behind it
pub characters-are : (t : List ℕ) → characters t ≡ and_then (first t) (λ k. characters (drop k t))
unfolding characters up_to
characters-are t =
    enough (length t) (suc (length t)) t (omega arith) (omega arith)
    ∙ after (first-sound t) (λ k. up_to (length t) (drop k t)) (λ k. up_to (length (drop k t)) (drop k t))
    (λ k l. enough (length t) (length (drop k t)) (drop k t) (omega (arith, length-drop k t)) (omega arith))

-- by what stands at a place of a text
module _ (s : List ℕ) (i : ℕ) where
  pub at-char : {code n : ℕ} → decode_at s i ≡ Char code n → characters (drop i s) ≡ Char code n ∷ characters (drop (i + n) s)
  unfolding decode_at and_then
  at-char {code} {n} e = characters-are (drop i s) ∙ rw (e, drop-drop n i s)

  pub at-bad : decode_at s i ≡ Bad → characters (drop i s) ≡ Bad ∷ []
  unfolding decode_at and_then
  at-bad e = characters-are (drop i s) ∙ rw e

  pub at-end : decode_at s i ≡ End → characters (drop i s) ≡ []
  unfolding decode_at and_then
  at-end e = characters-are (drop i s) ∙ rw e

  pub code-char : {code n : ℕ} → decode_at s i ≡ Char code n → codes (drop i s) ≡ code ∷ codes (drop (i + n) s)
  unfolding codes codes_of
  code-char e = rw (at-char e)

  pub code-bad : decode_at s i ≡ Bad → codes (drop i s) ≡ []
  unfolding codes codes_of
  code-bad e = rw (at-bad e)

  pub code-end : decode_at s i ≡ End → codes (drop i s) ≡ []
  unfolding codes codes_of
  code-end e = rw (at-end e)

-- no character stands there: none is left that is read
pub code-over : (s : List ℕ) (i : ℕ) → ((code n : ℕ) → decode_at s i ≡ Char code n → ⊥) → codes (drop i s) ≡ []
code-over s i none =
    elim (decode_at s i) as (λ d. decode_at s i ≡ d → codes (drop i s) ≡ []) [
      | Char code n ↦ λ e. absurd (none code n e)
      | Bad ↦ λ e. code-bad s i e
      | End ↦ λ e. code-end s i e
    ] refl
