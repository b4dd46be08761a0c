use mathlib.Core.Path.{refl}
use Rattle.hexes.specs.Hex.{is_digit}
use Rattle.hexes.proofs.is_digit.Goals as goal

pub returns : goal.returns
unfolding is_digit
returns c = refl
