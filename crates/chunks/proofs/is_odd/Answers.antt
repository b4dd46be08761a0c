use Rattle.chunks.specs.Latin.{is_odd}
use mathlib.Core.Path.{refl}
use Rattle.chunks.proofs.is_odd.Goals as goal

pub returns : goal.returns
unfolding is_odd
returns c = refl
