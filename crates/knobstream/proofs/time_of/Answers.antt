use Rattle.chars.specs.Pick.{pick}
use Rattle.knobstream.specs.Back.{time_of}
use borrow.Author.Rules.{rules}
use Rattle.knobstream.proofs.time_of.Goals as goal

pub returns-then-is_set : goal.returns-then-is_set
unfolding time_of pick
returns-then-is_set c =
    simp (← c.is_set.ensures, c.if-is_set.true, ← c.offset_of.ensures)

pub returns : goal.returns
unfolding time_of pick
returns c =
    simp (← c.is_set.ensures, c.if-is_set.false)
