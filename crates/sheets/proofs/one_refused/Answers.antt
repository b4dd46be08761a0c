use Rattle.sheets.specs.Tallies.{one_refused}
use Rattle.sheets.proofs.one_refused.Goals as goal

pub returns : goal.returns
unfolding one_refused
returns c = simp (← c.plus.ensures)
