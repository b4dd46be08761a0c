use native.Mathlib.Omega.{arith}
use Rattle.writer.specs.Texts.{written_month}
use mathlib.Core.Path.{refl}
use Rattle.writer.proofs.written_month.Goals as goal

pub returns : goal.returns
unfolding written_month
returns c = refl
