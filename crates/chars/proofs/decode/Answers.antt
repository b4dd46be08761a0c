use mathlib.Core.Path.{◌≡◌, refl, sym}
use mathlib.Core.List.{[], ◌∷◌}
use Prim.Native.Nat.{ℕ, zero, suc}
use lib.ListN.{get_or}
use Rattle.chars.specs.declared.Decoded.{Decoded}
use Rattle.chars.specs.declared.Decoded.TheVariants.{Bad}
use Rattle.chars.specs.Utf8.{decode}
use borrow.Author.Rules.{rules}
use Rattle.chars.proofs.decode.Goals as goal

-- at another place than these four the list of answers has Bad
other : (n : ℕ) (p q r s : Decoded) → (n ≡ 1 → ⊥) → (n ≡ 2 → ⊥) → (n ≡ 3 → ⊥) → (n ≡ 4 → ⊥) → get_or (Bad ∷ p ∷ q ∷ r ∷ s ∷ []) n Bad ≡ Bad
other zero p q r s a b c d = refl
other (suc zero) p q r s a b c d = absurd (a refl)
other (suc (suc zero)) p q r s a b c d = absurd (b refl)
other (suc (suc (suc zero))) p q r s a b c d = absurd (c refl)
other (suc (suc (suc (suc zero)))) p q r s a b c d = absurd (d refl)
other (suc (suc (suc (suc (suc n))))) p q r s a b c d = refl

pub returns-in-1 : goal.returns-in-1
unfolding decode
returns-in-1 c =
    simp (← c.char_len.ensures, c.in-1.is, c.wide.ensures)

pub returns-in-2 : goal.returns-in-2
unfolding decode
returns-in-2 c =
    simp (← c.char_len.ensures, c.in-2.is, ← c.two.ensures)

pub returns-in-3 : goal.returns-in-3
unfolding decode
returns-in-3 c =
    simp (← c.char_len.ensures, c.in-3.is, ← c.three.ensures)

pub returns-in-4 : goal.returns-in-4
unfolding decode
returns-in-4 c =
    simp (← c.char_len.ensures, c.in-4.is, ← c.four.ensures)

pub returns-in_default : goal.returns-in_default
unfolding decode
returns-in_default c =
    let r = c.in_default.in_default-own.rest in
    rw (← c.char_len.ensures) (sym (other _ _ _ _ _ r.0.0.0.1 r.0.0.1 r.0.1 r.1))
