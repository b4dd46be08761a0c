use Rattle.headers.proofs.Cells.{again-none, again-some}
use Rattle.headers.specs.Columns.{again}
use borrow.Author.Rules.{rules}
use Rattle.headers.proofs.again.Goals as goal

pub returns-then-column-count : goal.returns-then-column-count
unfolding again
returns-then-column-count c =
    let a = c.args in
    again-some a.name.now a.s.now a.table.now a.count a.column c.column_from.ensures

pub returns : goal.returns
unfolding again
returns c =
    let a = c.args in
    again-none a.name.now a.s.now a.table.now a.count a.column c.if-column-count.false
