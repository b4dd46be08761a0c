use Rattle.chunks.specs.Standing.{is_standing}
use mathlib.Core.Path.{refl}
use Rattle.chunks.proofs.is_standing.Goals as goal

pub returns : goal.returns
unfolding is_standing
returns c = refl
