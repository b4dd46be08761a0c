use Rattle.codes.specs.Parts.{is_letter}
use mathlib.Core.Path.{refl}
use Rattle.codes.proofs.is_letter.Goals as goal

pub returns : goal.returns
unfolding is_letter
returns c = refl
