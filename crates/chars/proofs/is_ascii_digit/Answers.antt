use Rattle.chars.specs.Classes.{is_ascii_digit}
use borrow.Author.Rules.{rules}
use Rattle.chars.proofs.is_ascii_digit.Goals as goal

pub returns : goal.returns
unfolding is_ascii_digit
returns c = simp (← c.within.ensures)
