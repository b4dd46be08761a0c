use Rattle.datefield.specs.Text.{is_open}
use borrow.Author.Rules.{rules}
use Rattle.datefield.proofs.is_open_range.Goals as goal

pub returns-then-is_blank : goal.returns-then-is_blank
unfolding is_open
returns-then-is_blank c =
    simp (← c.is_blank.ensures, c.if-is_blank.true)

pub returns-else-is_blank : goal.returns-else-is_blank
unfolding is_open
returns-else-is_blank c =
    simp (← c.is_blank.ensures, c.if-is_blank.false, ← c.is_dots.ensures)
