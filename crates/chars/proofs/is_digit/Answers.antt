use borrow.Author.Rules.{rules}
use Rattle.chars.proofs.is_digit.Goals as goal

pub returns : goal.returns
returns c = simp (← c.wide.ensures, ← c.is_ascii_digit.ensures)
