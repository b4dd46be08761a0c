use borrow.Author.Rules.{rules}
use Rattle.chronology.proofs.Signs.{precedes-is}
use Rattle.chronology.proofs.precedes.Goals as goal

pub returns : goal.returns
returns c =
    precedes-is c.args.a c.args.b
    (record { of_first = record { sfits = c.struct_told-3-1.given.0.1 }; of_last = record { sfits = c.struct_told-1.given.1.0.1 } })
    (record { of_first = record { sfits = c.struct_told-4-1.given.0.1 }; of_last = record { sfits = c.struct_told-2-1.given.1.0.1 } })
    c.sooner.ensures c.sooner-2.ensures
