use Rattle.sheets.specs.Tallies.{one_otherwise}
use Rattle.sheets.proofs.one_otherwise.Goals as goal

pub returns : goal.returns
unfolding one_otherwise
returns c = simp (← c.plus.ensures)
