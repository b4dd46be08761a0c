use Rattle.chars.specs.Pick.{pick}
use Rattle.knobstream.specs.Back.{day_of}
use borrow.Author.Rules.{rules}
use Rattle.knobstream.proofs.day_of.Goals as goal

pub returns-then-is_set : goal.returns-then-is_set
unfolding day_of pick
returns-then-is_set c =
    simp (← c.is_set.ensures, c.if-is_set.true)

pub returns : goal.returns
unfolding day_of pick
returns c =
    simp (← c.is_set.ensures, c.if-is_set.false)
