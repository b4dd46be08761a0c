use native.Mathlib.Omega.{arith}
use Rattle.writer.specs.Texts.{written_day}
use mathlib.Core.Path.{refl}
use Rattle.writer.proofs.written_day.Goals as goal

pub returns : goal.returns
unfolding written_day
returns c = refl
