use Rattle.sheets.proofs.RowLaws.{good-short, told-bad, told-good}
use Rattle.headers.specs.Tables.{cells_from}
use Rattle.sheets.specs.Inside.{at_start}
use native.Mathlib.Omega.{arith}
use mathlib.Core.Path.{ap, sym, ◌∙◌}
use Rattle.sheets.proofs.checked_lines.Goals as goal

pub row_lines-requires : goal.row_lines-requires
row_lines-requires c = (omega arith, good-short c.args.c (cells_from c.args.block.now c.args.table.now 0 c.args.count) c.args.width c.args.block.now c.args.end c.args.count (sym c.check_row.ensures ∙ c.in-Ok.is))

pub shape_of-out-in-Ok : goal.shape_of-out-in-Ok
shape_of-out-in-Ok c = c.row_lines.ensures.text.same

pub returns-in-Ok : goal.returns-in-Ok
returns-in-Ok c = let a = c.args in
    told-good a.c (cells_from c.args.block.now c.args.table.now 0 c.args.count) a.line a.width a.block.now a.end a.count (sym c.check_row.ensures ∙ c.in-Ok.is) (ap at_start c.one_row.ensures) c.row_lines.ensures

pub shape_of-out-in-Err : goal.shape_of-out-in-Err
shape_of-out-in-Err c = c.bad_row.ensures.text.same

pub returns-in-Err : goal.returns-in-Err
returns-in-Err c = let a = c.args in
    told-bad a.c (cells_from c.args.block.now c.args.table.now 0 c.args.count) a.line a.width a.block.now a.end a.count (sym c.check_row.ensures ∙ c.in-Err.is) c.bad_row.ensures
