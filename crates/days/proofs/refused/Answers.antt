use mathlib.Core.Path.{ap}
use Rattle.std.specs.Prelude.{Err}
use Rattle.days.specs.Covered.{not_adate}
use Rattle.days.proofs.refused.Goals as goal

pub returns : goal.returns
unfolding not_adate
returns c = ap Err c.nowhere.ensures
