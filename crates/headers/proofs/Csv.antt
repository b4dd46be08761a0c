-- The cells of a row that csv answers are those of its table. Assumes nothing.
use Rattle.csv_rows.proofs.Moves.{cells-inside, row_of}
use Rattle.headers.proofs.Rows.{cells_are}
use mathlib.Core.Path.{◌≡◌}
use Prim.Native.Nat.{ℕ}
use Rattle.headers.specs.Header.{row_cells}
use lib.ListN.{length}
use Rattle.headers.specs.Tables.{cells_from}
use native.Mathlib.Omega.{arith}
use Rattle.csv_rows.specs.declared.Separator.{Separator}
use Rattle.csv_rows.specs.Reader.{byte_of}
use mathlib.Core.List.{List}
use Rattle.csv_rows.specs.Answers.{answer, line_of, table_after}
use mathlib.Core.Bool.{Bool}
use Rattle.csv_rows.specs.declared.RowRead.TheVariants.{Row}

-- the cells of a row are those of the table
pub row-cells : (sep : Separator) (last : Bool) (s table : List ℕ) {t : List ℕ} {end count : ℕ} → t ≡ table_after (byte_of sep) last s table → length table ≡ 512
    → answer (byte_of sep) last s ≡ Row end count → cells_from s t 0 count ≡ row_cells sep last s
unfolding table_after row_cells
row-cells sep last s table f w e =
    let n = row_of (byte_of sep) last s e in
    rw (f, ← n.counted_is) (cells_are s table (line_of (byte_of sep) last s) w (omega (arith, n.counted_is, n.few)) (cells-inside (byte_of sep) last s))
