use Rattle.verdicts.specs.Fields.{is_unread}
use Rattle.verdicts.proofs.is_unread.Goals as goal

pub returns-then-day_alone : goal.returns-then-day_alone
unfolding is_unread
returns-then-day_alone c =
    simp (← c.day_alone.ensures, c.if-day_alone.true)

pub returns-then-behind_blank : goal.returns-then-behind_blank
unfolding is_unread
returns-then-behind_blank c =
    simp (← c.day_alone.ensures, c.if-day_alone.false, ← c.behind_blank.ensures, c.if-behind_blank.true)

pub returns-else-behind_blank : goal.returns-else-behind_blank
unfolding is_unread
returns-else-behind_blank c =
    simp (← c.day_alone.ensures, c.if-day_alone.false, ← c.behind_blank.ensures, c.if-behind_blank.false, ← c.day_alone-else-behind_blank.ensures)
