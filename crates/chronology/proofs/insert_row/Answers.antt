use mathlib.Core.Path.{refl}
use native.Mathlib.Omega.{arith}
use borrow.Author.Rules.{rules}
use Rattle.chronology.proofs.Shift.{risen}
use Rattle.chronology.proofs.insert_row.Goals as goal

pub returns : goal.returns
returns c =
    let a = c.args in (
      risen a.firsts.now a.n a.at (omega arith) (omega arith) c.copy_within.ensures.after (search rules),
      risen a.lasts.now a.n a.at (omega arith) (omega arith) c.copy_within-2.ensures.after (search rules),
      risen a.ids.now a.n a.at (omega arith) (omega arith) c.copy_within-3.ensures.after refl,
    )
