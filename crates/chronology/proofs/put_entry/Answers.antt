use lib.ListN.{length-set}
use native.Mathlib.Omega.{arith}
use Rattle.chronology.proofs.Signs.{wider, three-numbers}
use borrow.Author.Rules.{rules}
use Rattle.chronology.proofs.put_entry.Goals as goal

pub overflow_cast-out : goal.overflow_cast-out
overflow_cast-out c = wider c.args.e.first (record { sfits = c.struct_told-1.given.0.1 })

pub overflow_cast-out-2 : goal.overflow_cast-out-2
overflow_cast-out-2 c = wider c.args.e.last (record { sfits = c.struct_told-2-1.given.1.0.1 })

pub bounds-out-at-2 : goal.bounds-out-at-2
bounds-out-at-2 c = simp length-set (omega arith)

pub bounds-out-at-3 : goal.bounds-out-at-3
bounds-out-at-3 c = simp length-set (omega arith)

pub returns : goal.returns
returns c =
    three-numbers c.args.out.now c.args.at c.args.e
    (record { of_first = record { sfits = c.struct_told-1.given.0.1 }; of_last = record { sfits = c.struct_told-2-1.given.1.0.1 } })
    (omega arith)
