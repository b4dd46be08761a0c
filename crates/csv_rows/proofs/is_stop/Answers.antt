use mathlib.Core.Path.{refl}
use Rattle.csv_rows.specs.Reader.{is_stop}
use Rattle.csv_rows.proofs.is_stop.Goals as goal

pub returns : goal.returns
unfolding is_stop
returns c = refl
