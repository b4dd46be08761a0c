use Rattle.numbers.specs.Number.{parse_int}
use borrow.Author.Rules.{rules}
use Rattle.numbers.proofs.parse_int.Goals as goal

pub returns : goal.returns
unfolding parse_int
returns c = simp (← c.signed_run.ensures, ← c.int_of.ensures)
