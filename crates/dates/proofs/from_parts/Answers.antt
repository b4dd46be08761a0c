use Rattle.chars.specs.Pick.{pick}
use Rattle.dates.specs.Time.{time_of}
use borrow.Author.Rules.{rules}
use Rattle.dates.proofs.from_parts.Goals as goal

pub returns-then-in_range : goal.returns-then-in_range
unfolding time_of pick
returns-then-in_range c =
    simp (← c.in_range.ensures, c.if-in_range.true)

pub returns : goal.returns
unfolding time_of pick
returns c =
    simp (← c.in_range.ensures, c.if-in_range.false)
