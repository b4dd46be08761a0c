use Rattle.csv_rows.specs.Texts.{undoubled}
use Rattle.chars.specs.Pick.{pick}
use borrow.Author.Tests.{ne_eqb}
use lib.ListN.{get_or, length}
use Rattle.headers.specs.Tables.{cell_at, cells_from}
use native.Mathlib.Omega.{arith}
use native.Mathlib.Nat.{add-zero}
use mathlib.Core.Path.{◌≡◌, ap, refl, ◌∙◌}
use mathlib.Core.List.{List, [], ◌∷◌}
use Prim.Native.Nat.{◌+◌, ◌<◌, suc, zero, ℕ, ◌≤◌}

-- The own bytes of a column's cell, and their text. Assumes nothing.

-- the cell of a number among so many from another on
pub own_in : (s table : List ℕ) (i n k : ℕ) → k < n → cell_at s table (i + k) ≡ get_or (cells_from s table i n) k []
unfolding cells_from
own_in s table i zero k h = absurd (omega arith)
own_in s table i (suc n) zero h = ap (cell_at s table) (add-zero i)
own_in s table i (suc n) (suc k) h =
    let e : i + suc k ≡ suc i + k = omega arith in
    ap (cell_at s table) e ∙ own_in s table (suc i) n k (omega arith)

-- there is none
pub own_out : (s table : List ℕ) (i n k : ℕ) → n ≤ k → ◌≡◌ {A = List ℕ} [] (get_or (cells_from s table i n) k [])
unfolding cells_from
own_out s table i zero zero h = refl
own_out s table i zero (suc k) h = refl
own_out s table i (suc n) zero h = absurd (omega arith)
own_out s table i (suc n) (suc k) h = own_out s table (suc i) n k (omega arith)

-- bytes without a quote are their text
pub no_quote : (s : List ℕ) → ((k : ℕ) → k < length s → get_or s k 0 ≡ 34 → ⊥) → undoubled s ≡ s
unfolding undoubled pick
no_quote [] h = refl
no_quote (b ∷ []) h = refl
no_quote (b ∷ c ∷ s) h =
    rw (ne_eqb b 34 (h 0 (omega arith))) (ap (λ (l : List ℕ). b ∷ l) (no_quote (c ∷ s) (λ k l e. h (suc k) (omega arith) e)))
