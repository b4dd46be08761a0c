use mathlib.Core.Path.{ap, sym, ◌∙◌}
use Rattle.headers.specs.Names.{is_name}
use Rattle.headers.proofs.Cells.{column-here, column-none, column-on}
use Rattle.headers.proofs.column_from.Goals as goal

pub returns-then-is_name : goal.returns-then-is_name
returns-then-is_name c =
    let a = c.args in
    let e = c.is_name.ensures ∙ ap (is_name a.name.now) c.cell.ensures in
    column-here a.name.now a.s.now a.table.now c.loop-i.i a.count c.loop-i-test.true (sym e ∙ c.if-is_name.true) ∙ c.loop-i.invariant

pub loop-i-preserved : goal.loop-i-preserved
loop-i-preserved c =
    let a = c.args in
    let e = c.is_name.ensures ∙ ap (is_name a.name.now) c.cell.ensures in
    column-on a.name.now a.s.now a.table.now c.loop-i.i a.count c.loop-i-test.true (sym e ∙ c.if-is_name.false) ∙ c.loop-i.invariant

pub returns : goal.returns
returns c =
    let a = c.args in
    column-none a.name.now a.s.now a.table.now c.loop-i.i a.count c.loop-i-test.false ∙ c.loop-i.invariant
