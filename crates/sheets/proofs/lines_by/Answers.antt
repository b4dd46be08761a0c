use Rattle.sheets.proofs.Goings.{told-both}
use Rattle.sheets.specs.Rows.{lines_by, row_counted}
use Rattle.sheets.proofs.lines_by.Goals as goal

pub returns : goal.returns
unfolding lines_by row_counted
returns c = told-both c.dates-d.ensures c.six_cells.ensures
