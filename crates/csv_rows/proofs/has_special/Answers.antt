use native.Mathlib.Omega.{arith}
use Rattle.csv_rows.specs.Reader.{is_special}
use Rattle.csv_rows.proofs.Laws.{same-go}
use Rattle.csv_rows.proofs.has_special.Goals as goal

pub loop-i-preserved : goal.loop-i-preserved
loop-i-preserved c =
    let a = c.args in
    same-go (is_special a.sep) a.s.now a.at c.loop-i.i c.loop-i.any c.is_special-any.result (omega arith) c.is_special-any.ensures c.loop-i.invariant
