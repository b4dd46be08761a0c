use mathlib.Core.Path.{sym}
use lib.Seq.{length-take-le}
use Rattle.sheets.proofs.RowLaws.{key-told}
use Rattle.headers.specs.Tables.{cells_from}
use Rattle.sheets.proofs.key_copied.Goals as goal

pub copy-n-requires : goal.copy-n-requires
copy-n-requires c = c.requires.1

pub slice_bounds-text-end : goal.slice_bounds-text-end
slice_bounds-text-end c = c.copy-n.ensures.1

pub slice_bounds-lines_by-end : goal.slice_bounds-lines_by-end
slice_bounds-lines_by-end c = sym (length-take-le _ _ c.copy-n.ensures.1)

pub lines_by-requires : goal.lines_by-requires
lines_by-requires c = (c.requires.0, c.requires.2)

pub shape_of-out : goal.shape_of-out
shape_of-out c = c.lines_by.ensures.text.same

pub returns : goal.returns
returns c = let a = c.args in
    key-told a.line a.c (cells_from a.block.now a.table.now 0 a.count) c.copy-n.ensures.0 c.lines_by.ensures
