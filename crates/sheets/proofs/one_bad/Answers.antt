use Rattle.sheets.specs.Tallies.{one_bad}
use Rattle.sheets.proofs.one_bad.Goals as goal

pub returns : goal.returns
unfolding one_bad
returns c =
    simp (← c.plus.ensures, ← c.plus-2.ensures)
