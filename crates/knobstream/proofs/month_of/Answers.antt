use Rattle.chars.specs.Pick.{pick}
use Rattle.knobstream.specs.Back.{month_of}
use borrow.Author.Rules.{rules}
use Rattle.knobstream.proofs.month_of.Goals as goal

pub returns-then-is_set : goal.returns-then-is_set
unfolding month_of pick
returns-then-is_set c =
    simp (← c.is_set.ensures, c.if-is_set.true)

pub returns : goal.returns
unfolding month_of pick
returns c =
    simp (← c.is_set.ensures, c.if-is_set.false)
