use Rattle.headers.specs.Names.{is_space}
use mathlib.Core.Path.{refl}
use Rattle.headers.proofs.is_space.Goals as goal

pub returns : goal.returns
unfolding is_space
returns c = refl
