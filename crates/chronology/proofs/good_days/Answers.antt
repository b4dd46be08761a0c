use borrow.Author.Rules.{rules}
use Rattle.chronology.proofs.Signs.{days_are}
use Rattle.chronology.proofs.good_days.Goals as goal

pub returns : goal.returns
returns c =
    let t = c.struct_told-1.given in
    days_are c.args.e (record { of_first = record { sfits = t.0.1 }; of_last = record { sfits = t.1.0.1 } }) c.good_period.ensures
