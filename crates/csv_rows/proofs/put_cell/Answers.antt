use mathlib.Core.Path.{refl}
use lib.ListN.{length-set}
use Rattle.csv_rows.proofs.Reading.{two}
use borrow.Author.Rules.{rules}
use native.Mathlib.Omega.{arith}
use Rattle.csv_rows.proofs.put_cell.Goals as goal

pub bounds-table-at-then-count-lt256 : goal.bounds-table-at-then-count-lt256
bounds-table-at-then-count-lt256 c = simp length-set (omega arith)

pub returns-then-count-lt256 : goal.returns-then-count-lt256
returns-then-count-lt256 c = let a = c.args in record { put = λ _. two a.table.now _ a.start a.stop; full = λ h. absurd (omega arith) }

pub returns-else-count-lt256 : goal.returns-else-count-lt256
returns-else-count-lt256 c = record { put = λ h. absurd (omega arith); full = λ _. refl }
