use mathlib.Core.Path.{refl}
use Rattle.knobstream.specs.Back.{is_set}
use Rattle.knobstream.proofs.is_set.Goals as goal

pub returns : goal.returns
unfolding is_set
returns c = refl
