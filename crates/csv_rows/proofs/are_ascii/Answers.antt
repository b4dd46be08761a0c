use native.Mathlib.Omega.{arith}
use Rattle.csv_rows.proofs.Utf8.{ascii-go}
use Rattle.csv_rows.proofs.are_ascii.Goals as goal

pub loop-i-preserved : goal.loop-i-preserved
loop-i-preserved c = let a = c.args in ascii-go a.s.now a.at c.loop-i.i c.loop-i.all (omega arith) c.loop-i.invariant
