use mathlib.Core.Path.{refl}
use Rattle.knobstream.proofs.put.Goals as goal

pub returns : goal.returns
returns c = refl
