use Rattle.csv_rows.specs.Texts.{undoubled}
use Rattle.sheets.specs.Rows.{six_of, six_said}
use Rattle.sheets.proofs.OneDate.{six-as}
use native.Mathlib.Omega.{arith}
use mathlib.Core.Path.{ap}
use Rattle.sheets.proofs.six_cells.Goals as goal

pub six_own-requires : goal.six_own-requires
six_own-requires c = (omega arith, rw c.cell_of-year.ensures c.requires.1.year, rw c.cell_of-month.ensures c.requires.1.month, rw c.cell_of-day.ensures c.requires.1.day, rw c.cell_of-endyear.ensures c.requires.1.endyear, rw c.cell_of-endmonth.ensures c.requires.1.endmonth, rw c.cell_of-endday.ensures c.requires.1.endday)

pub returns : goal.returns
unfolding six_said six_of
returns c = let a = c.args in
    six-as a.line a.key.now (ap undoubled c.cell_of-year.ensures) (ap undoubled c.cell_of-month.ensures) (ap undoubled c.cell_of-day.ensures) (ap undoubled c.cell_of-endyear.ensures) (ap undoubled c.cell_of-endmonth.ensures) (ap undoubled c.cell_of-endday.ensures) c.six_own.ensures
