use Rattle.chars.specs.Classes.{is_ascii_alphabetic}
use borrow.Author.Rules.{rules}
use Rattle.chars.proofs.is_ascii_alphabetic.Goals as goal

pub returns-then-within : goal.returns-then-within
unfolding is_ascii_alphabetic
returns-then-within c =
    simp (← c.within.ensures, c.if-within.true)

pub returns : goal.returns
unfolding is_ascii_alphabetic
returns c =
    simp (← c.within.ensures, c.if-within.false, ← c.within-2.ensures)
