use Rattle.datefield.specs.Text.{is_blank}
use borrow.Author.Rules.{rules}
use Rattle.datefield.proofs.is_blank.Goals as goal

pub returns : goal.returns
unfolding is_blank
returns c =
    simp (← c.eat_whitespace-c.ensures)
