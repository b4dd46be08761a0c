use Rattle.sheets.specs.Tallies.{one_row}
use Rattle.sheets.proofs.one_row.Goals as goal

pub returns : goal.returns
unfolding one_row
returns c = simp (← c.plus.ensures)
