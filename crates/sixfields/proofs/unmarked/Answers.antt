use mathlib.Core.Path.{refl}
use Rattle.sixfields.specs.Six.{unmarked}
use Rattle.sixfields.proofs.unmarked.Goals as goal

pub returns : goal.returns
unfolding unmarked
returns c = refl
