use Rattle.numbers.specs.Number.{behind_sign, or_kept}
use borrow.Author.Rules.{rules}
use Rattle.numbers.proofs.eat_sign.Goals as goal

pub returns-in-Some : goal.returns-in-Some
unfolding behind_sign or_kept
returns-in-Some c =
    simp (← c.eat_if.ensures, c.in-Some.is)

pub returns-in-None : goal.returns-in-None
unfolding behind_sign or_kept
returns-in-None c =
    simp (← c.eat_if.ensures, c.in-None.is)
