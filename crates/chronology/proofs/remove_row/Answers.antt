use native.Mathlib.Omega.{arith}
use Rattle.chronology.proofs.Shift.{fallen}
use Rattle.chronology.proofs.remove_row.Goals as goal

pub returns : goal.returns
returns c =
    let a = c.args in (
      fallen a.firsts.now a.n a.at (omega arith) c.copy_within.ensures.after,
      fallen a.lasts.now a.n a.at (omega arith) c.copy_within-2.ensures.after,
      fallen a.ids.now a.n a.at (omega arith) c.copy_within-3.ensures.after,
    )
