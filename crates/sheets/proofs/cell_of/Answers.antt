use native.Mathlib.Nat.{zero-add}
use Rattle.sheets.proofs.Owns.{own_in, own_out}
use Rattle.headers.specs.Tables.{cell_at}
use mathlib.Core.Path.{ap, sym, ◌∙◌}
use Rattle.sheets.proofs.cell_of.Goals as goal

pub returns-then-k-count : goal.returns-then-k-count
returns-then-k-count c =
    let a = c.args in
    c.cell.ensures ∙ ap (cell_at a.s.now a.table.now) (sym (zero-add a.k)) ∙ own_in a.s.now a.table.now 0 a.count a.k c.if-k-count.true

pub returns : goal.returns
returns c = let a = c.args in own_out a.s.now a.table.now 0 a.count a.k c.if-k-count.false
