use Rattle.sheets.specs.Tallies.{one_strict}
use Rattle.sheets.proofs.one_strict.Goals as goal

pub returns : goal.returns
unfolding one_strict
returns c = simp (← c.plus.ensures)
