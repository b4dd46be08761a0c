-- The cells of a table, one behind the other, and the first that has a name. Assumes nothing.
use lib.Dec.{ltb}
use lib.ListN.{drop}
use native.Mathlib.Nat.{add-zero, sub-zero, zero-add}
use mathlib.Core.Path.{◌≡◌, ◌∙◌}
use Rattle.chars.specs.Pick.{pick}
use Rattle.headers.specs.Names.{is_name}
use mathlib.Core.Bool.{false, true}
use Rattle.headers.specs.Columns.{column_from, again}
use native.Mathlib.Omega.{arith}
use native.Mathlib.Numerals.{add-one}
use mathlib.Core.List.{List, ◌∷◌}
use Prim.Native.Nat.{◌+◌, ◌-◌, ◌<◌, suc, ℕ, ◌≤◌, zero}
use Rattle.headers.specs.Tables.{cell_at, cells_from}

module _ (name s table : List ℕ) (i count : ℕ) where
  -- there is a next cell
  pub cells-next : i < count → cells_from s table i (count - i) ≡ cell_at s table i ∷ cells_from s table (suc i) (count - suc i)
  unfolding cells_from
  cells-next h = let e : count - i ≡ suc (count - suc i) = omega arith in rw e

  -- it has the name
  pub column-here : i < count → is_name name (cell_at s table i) ≡ true → i ≡ column_from name i (cells_from s table i (count - i))
  unfolding column_from pick
  column-here h e = rw (cells-next h, e)

  -- or not
  pub column-on : i < count → is_name name (cell_at s table i) ≡ false
      → column_from name (i + 1) (cells_from s table (i + 1) (count - (i + 1))) ≡ column_from name i (cells_from s table i (count - i))
  unfolding column_from pick
  column-on h e = rw (cells-next h, e, add-one i)

  -- there is none left
  pub column-none : count ≤ i → 256 ≡ column_from name i (cells_from s table i (count - i))
  unfolding column_from cells_from
  column-none h = let e : count - i ≡ 0 = omega arith in rw e

-- the cells behind some
pub cells-behind : (s table : List ℕ) (i n k : ℕ) → drop k (cells_from s table i n) ≡ cells_from s table (i + k) (n - k)
unfolding cells_from
cells-behind s table i n zero = rw (add-zero i, sub-zero n)
cells-behind s table i zero (suc k) = let e : 0 - suc k ≡ 0 = omega arith in rw e
cells-behind s table i (suc n) (suc k) =
    let e : suc i + k ≡ i + suc k = omega arith in
    let f : n - k ≡ suc n - suc k = omega arith in
    cells-behind s table (suc i) n k ∙ rw (e, f)

-- there is none
pub again-none : (name s table : List ℕ) (count column : ℕ) → count ≤ column → false ≡ again name column (cells_from s table 0 count)
unfolding again column_from cells_from
again-none name s table count column h =
    let e : count - suc column ≡ 0 = omega arith in
    rw (cells-behind s table 0 count (suc column), e)

-- there is one if there is one behind it
pub again-some : (name s table : List ℕ) (count column : ℕ) {r : ℕ} → r ≡ column_from name (column + 1) (cells_from s table (column + 1) (count - (column + 1)))
    → ltb r 256 ≡ again name column (cells_from s table 0 count)
unfolding again
again-some name s table count column e =
    rw (e, cells-behind s table 0 count (suc column), zero-add (suc column), add-one column)
