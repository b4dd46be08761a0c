use Rattle.chars.specs.Classes.{is_alphanumeric}
use borrow.Author.Rules.{rules}
use Rattle.chars.proofs.is_alphanumeric.Goals as goal

pub returns-then-is_alphabetic : goal.returns-then-is_alphabetic
unfolding is_alphanumeric
returns-then-is_alphabetic c =
    simp (← c.is_alphabetic.ensures, c.if-is_alphabetic.true)

pub returns : goal.returns
unfolding is_alphanumeric
returns c =
    simp (← c.is_alphabetic.ensures, c.if-is_alphabetic.false, ← c.is_numeric.ensures)
