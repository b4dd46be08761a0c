-- One hyphen, by what stands behind it: what callers that know the text use.
-- Assumes nothing.
use mathlib.Core.Path.{◌≡◌, ◌∙◌}
use mathlib.Core.List.{List, ◌∷◌}
use Prim.Native.Nat.{ℕ, ◌+◌, ◌-◌, ◌<◌}
use native.Mathlib.Omega.{arith}
use borrow.Author.Tests.{ne_eqb}
use lib.Dec.{lit<}
use Rattle.chars.specs.Pick.{pick}
use Rattle.scanner.specs.declared.Class.TheVariants.{Whitespace, Is}
use Rattle.scanner.proofs.Laws.{not_white}
use Rattle.scanner.proofs.Digits.{is-it, is-other}
use Rattle.scanner.proofs.Front.{From, front_rest, front-go, front-stop}
use Rattle.dates.specs.declared.Datetime.{Datetime}
use Rattle.refusals.specs.declared.TextRefusal.{TextRefusal}
use Rattle.std.specs.Prelude.{Result}
use Rattle.xranges.specs.Range.{hyphen_run, hyphen_from, get_hyphen, on_hyphen}

-- a printing ASCII character other than a hyphen stands behind it: reading goes on there
pub one-hyphen : {s t : List ℕ} {i c : ℕ} (go : ℕ → Result (Datetime × Datetime) TextRefusal) → 0x20 < c → c < 0x80 → (c ≡ 0x2D → ⊥) → From s i (0x2D ∷ c ∷ t) → on_hyphen (get_hyphen s i) go ≡ go (i + 1)
unfolding on_hyphen get_hyphen hyphen_from hyphen_run pick
one-hyphen {s} {t} {i} {c} go l h n f =
    rw (
      front-stop f Whitespace (lit< tt) (not_white 0x2D (lit< tt) (lit< tt)),
      front-go f (Is 0x2D) (lit< tt) (is-it 0x2D) ∙ front-stop (front_rest f) (Is 0x2D) h (is-other 0x2D c n),
      ne_eqb (i + 1 - i) 0 (λ (e : i + 1 - i ≡ 0). omega arith),
      front-stop (front_rest f) Whitespace h (not_white c l h),
    )
