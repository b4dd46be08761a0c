use Rattle.csv_rows.specs.Texts.{undoubled}
use Rattle.sheets.specs.Rows.{own_at, row_said}
use Rattle.sheets.proofs.RowLaws.{key-told}
use Rattle.headers.specs.Tables.{cells_from}
use mathlib.Core.Path.{ap, sym, ◌∙◌}
use Rattle.sheets.proofs.row_lines.Goals as goal

pub key_copied-requires : goal.key_copied-requires
key_copied-requires c = (c.requires.0, rw (c.cell_of-own.ensures ∙ ap (own_at (cells_from c.args.block.now c.args.table.now 0 c.args.count)) c.key_column.ensures) c.requires.1.key, c.requires.1)

pub shape_of-out-then-has_quote : goal.shape_of-out-then-has_quote
shape_of-out-then-has_quote c = c.key_copied.ensures.text.same

pub returns-then-has_quote : goal.returns-then-has_quote
unfolding row_said
returns-then-has_quote c = let a = c.args in
    key-told a.line a.c (cells_from a.block.now a.table.now 0 a.count) (ap undoubled (c.cell_of-own.ensures ∙ ap (own_at (cells_from c.args.block.now c.args.table.now 0 c.args.count)) c.key_column.ensures)) c.key_copied.ensures

pub lines_by-requires : goal.lines_by-requires
lines_by-requires c = (c.requires.0, c.requires.1)

pub shape_of-out : goal.shape_of-out
shape_of-out c = c.lines_by.ensures.text.same

pub returns : goal.returns
unfolding row_said
returns c = let a = c.args in
    key-told a.line a.c (cells_from a.block.now a.table.now 0 a.count) (sym (c.has_quote.ensures c.if-has_quote.false) ∙ ap undoubled (c.cell_of-own.ensures ∙ ap (own_at (cells_from c.args.block.now c.args.table.now 0 c.args.count)) c.key_column.ensures)) c.lines_by.ensures
