-- An answer that was put into a buffer behind a place, or for which there was no room. Assumes nothing.
use mathlib.Core.Path.{◌≡◌, refl, sym, subst}
use mathlib.Core.List.{List}
use Prim.Native.Nat.{ℕ, ◌+◌, ◌≤◌, ◌<◌}
use native.Mathlib.Omega.{arith}
use lib.ListN.{length}
use Rattle.puts.specs.Answers.{Put}
use Rattle.lines.specs.Steps.{Replied}
use Rattle.lines.specs.Steps.Replied.{was_put, no_room}

-- there was no room, and the buffer is as it was
pub unchanged : {t out out' : List ℕ} {p : ℕ} → length out < p + length t → out' ≡ out → Replied t out p out' p
unchanged {t} {out} {p} h e = subst (λ (o : List ℕ). Replied t out p o p) (sym e) (no_room h)

-- it was put where the place moved
pub moved : {t out out' : List ℕ} {p r : ℕ} → Replied t out p out' r → (r ≡ p → ⊥) → (p + length t ≤ length out) × Put t out p out' r
moved (was_put h q) n = (h, q)
moved (no_room h) n = absurd (n refl)

-- and not where it did not
pub not-moved : {t out out' : List ℕ} {p r : ℕ} → Replied t out p out' r → 0 < length t → r ≡ p → (length out < p + length t) × (out' ≡ out)
not-moved (was_put h q) g e = absurd (let b = q.behind in omega arith)
not-moved (no_room h) g e = (h, refl)

-- it was put where there is room
pub fitting : {t out out' : List ℕ} {p r : ℕ} → Replied t out p out' r → p + length t ≤ length out → Put t out p out' r
fitting (was_put h q) g = q
fitting (no_room h) g = absurd (omega arith)

-- the same text by another name
pub replied-as : {t u out out' : List ℕ} {p r : ℕ} → t ≡ u → Replied u out p out' r → Replied t out p out' r
replied-as {out} {out'} {p} {r} e x = subst (λ (y : List ℕ). Replied y out p out' r) (sym e) x
