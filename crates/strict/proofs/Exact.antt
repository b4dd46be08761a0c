-- The strict reader accepts exactly the texts that the strict grammar derives, with the Date that the derivation says. Assumes nothing.
use mathlib.Core.Path.{◌≡◌, refl, sym, ◌∙◌, subst}
use mathlib.Core.List.{List}
use mathlib.Core.Logic.{◌↔◌}
use Prim.Native.Nat.{ℕ}
use native.Mathlib.Omega.{arith}
use Rattle.dates.specs.declared.Datetime.{Datetime}
use Rattle.dates.specs.declared.Date.{Date}
use Rattle.std.specs.Prelude.{Option, Some, None}
use Rattle.strict.specs.Grammar.{Point, TextOf, Text}
use Rattle.strict.specs.Matcher.{point, text_of, strict}
use Rattle.strict.proofs.Points.{Exact}
use Rattle.strict.proofs.Complete.{point-read}
use Rattle.strict.proofs.Ranges.{point-known, point-closed}
use Rattle.strict.proofs.Sound.{point-taken}
use Rattle.strict.proofs.Texts.{text-read, text-taken, Accepted, accepted}

never : {d : Date} → ◌≡◌ {A = Option Date} None (Some d) → ⊥
never {d} h = let z : ◌≡◌ {A = ℕ} 0 1 = cc in omega arith

-- over any points whose reader is exact
module _ {P : List ℕ → Datetime → Type 0} {read : List ℕ → Option (Datetime × ℕ)} (x : Exact P read) (s : List ℕ) where
  taken : (d : Date) → text_of read s ≡ Some d → TextOf P s d
  taken d e = go (subst (Accepted P s) e (text-taken x s))
    where
      go : {d : Date} → Accepted P s (Some d) → TextOf P s d
      go (accepted t) = t

  pub exact-of : (d : Date) → (text_of read s ≡ Some d) ↔ TextOf P s d
  exact-of d = (taken d, λ t. text-read x t)

  pub refused-of : (text_of read s ≡ None) ↔ ((d : Date) → TextOf P s d → ⊥)
  refused-of = (λ e d t. never (sym e ∙ text-read x t), λ f. go f (text_of read s) refl)
    where
      go : ((d : Date) → TextOf P s d → ⊥) → (m : Option Date) → text_of read s ≡ m → text_of read s ≡ None
      go f None e = e
      go f (Some d) e = absurd (f d (taken d e))

  pub unique-of : (c d : Date) → TextOf P s c → TextOf P s d → c ≡ d
  unique-of c d t u = let e = text-read x t in let f = text-read x u in cc

-- the reader of points is exact
pub points : Exact Point point
points = record { sound = λ s. point-taken s; complete = λ e p f. point-read e p f; known = λ e p f. point-known e p f; closed = λ p f. point-closed p f }

-- accepted with a Date if and only if the grammar derives the text with that Date
pub exact : (s : List ℕ) (d : Date) → (strict s ≡ Some d) ↔ Text s d
unfolding strict
exact s d = exact-of points s d

-- refused if and only if no derivation exists
pub refused : (s : List ℕ) → (strict s ≡ None) ↔ ((d : Date) → Text s d → ⊥)
unfolding strict
refused s = refused-of points s

-- a text says at most one Date
pub unique : (s : List ℕ) (c d : Date) → Text s c → Text s d → c ≡ d
unique s c d t u = unique-of points s c d t u
