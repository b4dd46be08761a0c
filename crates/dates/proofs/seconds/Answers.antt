use Rattle.dates.specs.Time.{seconds}
use native.Mathlib.Omega.{arith}
use mathlib.Core.Path.{refl}
use Rattle.dates.proofs.seconds.Goals as goal

pub returns : goal.returns
unfolding seconds
returns c = (refl, omega arith)
