use Rattle.fields.specs.Day.{is_day}
use borrow.Author.Tests.{le-leb, lt-leb}
use Rattle.fields.proofs.is_day.Goals as goal

pub returns-then-d-ge1 : goal.returns-then-d-ge1
unfolding is_day
returns-then-d-ge1 c = simp (le-leb _ _ c.if-d-ge1.true)

pub returns-else-d-ge1 : goal.returns-else-d-ge1
unfolding is_day
returns-else-d-ge1 c = simp (lt-leb _ _ c.if-d-ge1.false)
