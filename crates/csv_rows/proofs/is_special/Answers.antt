use mathlib.Core.Path.{refl}
use Rattle.csv_rows.specs.Reader.{is_special}
use Rattle.csv_rows.proofs.is_special.Goals as goal

pub returns : goal.returns
unfolding is_special
returns c = refl
