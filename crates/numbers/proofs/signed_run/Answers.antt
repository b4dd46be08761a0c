use Rattle.numbers.specs.Number.{signed_run, signed_at}
use borrow.Author.Rules.{rules}
use Rattle.numbers.proofs.signed_run.Goals as goal

pub returns : goal.returns
unfolding signed_run signed_at
returns c =
    simp (← c.eat_whitespace-a.ensures, ← c.at-negative.ensures, ← c.eat_sign-b.ensures, ← c.next_run-numeric.ensures)
