use mathlib.Core.Path.{refl}
use native.Mathlib.Omega.{arith}
use Rattle.csv_rows.specs.Reader.{equal}
use Rattle.csv_rows.proofs.Laws.{same-go}
use Rattle.csv_rows.proofs.has_byte.Goals as goal

pub loop-i-preserved : goal.loop-i-preserved
loop-i-preserved c = let a = c.args in same-go (equal a.c) a.s.now a.at c.loop-i.i c.loop-i.any _ (omega arith) refl c.loop-i.invariant
