use mathlib.Core.Path.{◌∙◌}
use Rattle.csv_rows.proofs.Places.{plain_at}
use borrow.Author.Rules.{rules}
use Rattle.csv_rows.proofs.plain_cell.Goals as goal

pub returns : goal.returns
returns c =
    let a = c.args in
    c.closed_cell.ensures ∙ rw c.stop_at.ensures (plain_at a.over a.sep a.at a.s.now c.plain_end-e.result c.plain_end-e.ensures)
