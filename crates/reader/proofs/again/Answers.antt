use mathlib.Core.Path.{refl}
use Rattle.reader.proofs.again.Goals as goal

pub returns : goal.returns
returns c = refl
