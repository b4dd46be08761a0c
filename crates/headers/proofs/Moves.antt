-- A header has bytes, and lies within the block. Assumes nothing.
use Rattle.csv_rows.specs.Bytes.{utf8_end}
use Rattle.csv_rows.proofs.Moves.{row-advances}
use mathlib.Core.Path.{refl, ◌≡◌}
use borrow.Author.Tests.{leb-true}
use Rattle.headers.specs.Header.{header, header_behind, header_by, header_in, header_row, mark_len, names_by, on_names, row_cells, with_cells, with_row}
use lib.Dec.{eqb, leb, ltb}
use lib.ListN.{drop, get_or, length, length-drop, take}
use Rattle.headers.specs.Columns.{checked, chosen, columns_of, twice}
use Rattle.csv_rows.specs.Reader.{byte_of}
use Rattle.chars.proofs.Cases.{by-test}
use native.Mathlib.Omega.{arith}
use Rattle.csv_rows.specs.Answers.{answer}
use mathlib.Core.List.{List}
use mathlib.Core.Bool.{Bool, false, true}
use Prim.Native.Nat.{◌+◌, ◌<◌, ℕ, ◌≤◌}
use Rattle.csv_rows.specs.declared.RowRead.{RowRead}
use Rattle.csv_rows.specs.declared.RowRead.TheVariants.{Row, Faulty, Endless, More, Nothing}
use Rattle.csv_rows.specs.declared.Separator.{Separator}
use Rattle.csv_rows.specs.declared.Separator.TheVariants.{Comma, Semicolon, Tab}
use Rattle.headers.specs.declared.Columns.{Columns}
use Rattle.std.specs.Prelude.{Option, Some, None}
use Rattle.headers.specs.declared.Header.{Header}
use Rattle.headers.specs.declared.Header.TheVariants.{Wait, Without, With}
use Rattle.headers.specs.declared.Unusable.{Unusable}

-- a header that has at least one byte, and at most so many
data Moving (size : ℕ) : Header → Type 0 where
  it_waits : Moving size Wait
  has_none : {why : Unusable} → Moving size (Without why)
  has_some : {bytes cells : ℕ} {sep : Separator} {c : Columns} → 0 < bytes → bytes ≤ size → Moving size (With bytes sep c cells)

module _ (n size : ℕ) (sep : Separator) where
  cells-moving : (end count : ℕ) (cs : List (List ℕ)) → 0 < end → n + end ≤ size → Moving size (with_cells n sep end count cs)
  unfolding with_cells
  cells-moving end count cs h k =
      by-test (Moving size) (twice cs) (λ _. has_none)
      (λ _. by-test (Moving size) (eqb (checked (columns_of cs)) 0) (λ _. has_none) (λ _. let z : 0 < n + end = omega arith in has_some z k))

  row-moving : (s : List ℕ) (end count : ℕ) (cs : List (List ℕ)) → 0 < end → n + end ≤ size → Moving size (with_row n sep s end count cs)
  unfolding with_row
  row-moving s end count cs h k = by-test (Moving size) (ltb (utf8_end (take end s)) end) (λ _. has_none) (λ _. cells-moving end count cs h k)

  in-moving : (last : Bool) (s : List ℕ) (r : RowRead) → answer (byte_of sep) last s ≡ r → n + length s ≤ size → Moving size (header_in n sep s r (row_cells sep last s))
  unfolding header_in
  in-moving last s (Row end count) e h = let a = row-advances (byte_of sep) last s e in row-moving s end count (row_cells sep last s) a.0 (omega (arith, a.1))
  in-moving last s (Faulty end f) e h = has_none
  in-moving last s (Endless f) e h = has_none
  in-moving last s More e h = it_waits
  in-moving last s Nothing e h = has_none

names-moving : (size : ℕ) (m : Option ℕ) (go : ℕ → Header) → ((k : ℕ) → Moving size (go k)) → Moving size (on_names m go)
unfolding on_names
names-moving size (Some k) go h = h k
names-moving size None go h = it_waits

row-header-moving : (n size : ℕ) (last : Bool) (s : List ℕ) → n + length s ≤ size → Moving size (header_row n last s)
unfolding header_row header_by
row-header-moving n size last s h =
    names-moving size (names_by Comma last s) _ λ comma.
    names-moving size (names_by Semicolon last s) _ λ semicolon.
    names-moving size (names_by Tab last s) _ λ tab.
    in-moving n size (chosen comma semicolon tab) last s _ refl h

pub mark-in : (s : List ℕ) → mark_len s ≤ length s
unfolding mark_len
mark-in s =
    by-test (λ (k : ℕ). k ≤ length s) (leb 3 (length s))
    (λ q.
    let h = leb-true 3 (length s) q in
    by-test (λ (k : ℕ). k ≤ length s) (eqb (get_or s 0 0) 0xEF)
    (λ _. by-test (λ (k : ℕ). k ≤ length s) (eqb (get_or s 1 0) 0xBB) (λ _. by-test (λ (k : ℕ). k ≤ length s) (eqb (get_or s 2 0) 0xBF) (λ _. h) (λ _. omega arith)) (λ _. omega arith))
    (λ _. omega arith))
    (λ _. omega arith)

behind-moving : (last : Bool) (s : List ℕ) → Moving (length s) (header_behind last s)
unfolding header_behind
behind-moving last s =
    let m = mark-in s in
    row-header-moving (mark_len s) (length s) last (drop (mark_len s) s) (omega (arith, length-drop (mark_len s) s))

header-moving : (last : Bool) (s : List ℕ) → Moving (length s) (header last s)
unfolding header
header-moving last s =
    by-test (Moving (length s)) last (λ _. behind-moving true s)
    (λ _. by-test (Moving (length s)) (ltb (length s) 3) (λ _. it_waits) (λ _. behind-moving false s))

-- a header takes a byte at least, and no more than there are
pub header-advances : (last : Bool) (s : List ℕ) {bytes cells : ℕ} {sep : Separator} {c : Columns} → header last s ≡ With bytes sep c cells → (0 < bytes) × (bytes ≤ length s)
header-advances last s e = some_of (rw e at (header-moving last s)) where
  some_of : {size bytes cells : ℕ} {sep : Separator} {c : Columns} → Moving size (With bytes sep c cells) → (0 < bytes) × (bytes ≤ size)
  some_of (has_some h k) = (h, k)
