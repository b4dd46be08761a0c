use mathlib.Core.Path.{ap}
use Rattle.std.specs.Prelude.{Err}
use Rattle.days.specs.Covered.{seasoned}
use Rattle.days.proofs.seasoned.Goals as goal

pub returns : goal.returns
unfolding seasoned
returns c = ap Err c.nowhere.ensures
