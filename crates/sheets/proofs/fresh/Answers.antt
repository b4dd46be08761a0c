use mathlib.Core.Path.{refl}
use Rattle.sheets.specs.Steps.{fresh}
use Rattle.sheets.proofs.fresh.Goals as goal

pub returns : goal.returns
unfolding fresh
returns c = refl
