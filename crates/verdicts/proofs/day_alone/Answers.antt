use Rattle.verdicts.specs.Fields.{day_alone}
use borrow.Author.Tests.{lt-ltb, le-ltb}
use Rattle.verdicts.proofs.day_alone.Goals as goal

pub returns-then-month-gt0 : goal.returns-then-month-gt0
unfolding day_alone
returns-then-month-gt0 c = simp (lt-ltb _ _ c.if-month-gt0.true)

pub returns : goal.returns
unfolding day_alone
returns c = simp (le-ltb _ _ c.if-month-gt0.false)
