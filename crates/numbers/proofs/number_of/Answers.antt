use Rattle.chars.specs.Pick.{pick}
use Rattle.numbers.specs.Number.{run_of, run_value}
use borrow.Author.Rules.{rules}
use Rattle.numbers.proofs.number_of.Goals as goal

pub returns-in-Some : goal.returns-in-Some
unfolding run_of run_value pick
returns-in-Some c =
    simp (← c.from-num.ensures, ← c.contains.ensures, c.if-contains.true, ← c.digits_from.ensures, c.in-Some.is)

pub returns-in-None : goal.returns-in-None
unfolding run_of run_value pick
returns-in-None c =
    simp (← c.from-num.ensures, ← c.contains.ensures, c.if-contains.true, ← c.digits_from.ensures, c.in-None.is)

pub returns : goal.returns
unfolding run_of pick
returns c =
    simp (← c.from-num.ensures, ← c.contains.ensures, c.if-contains.false)
