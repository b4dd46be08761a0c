use Rattle.numbers.specs.Trim.{trim}
use borrow.Author.Rules.{rules}
use Rattle.numbers.proofs.trim.Goals as goal

pub returns : goal.returns
unfolding trim
returns c =
    simp (← c.eat_whitespace-a.ensures, ← c.trim_end-e.ensures, ← c.from.ensures)
