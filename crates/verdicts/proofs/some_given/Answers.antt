use Rattle.verdicts.specs.Fields.{some_given}
use borrow.Author.Tests.{lt-ltb, le-ltb}
use Rattle.verdicts.proofs.some_given.Goals as goal

pub returns-then-year-gt0 : goal.returns-then-year-gt0
unfolding some_given
returns-then-year-gt0 c = simp (lt-ltb _ _ c.if-year-gt0.true)

pub returns-then-month-gt0 : goal.returns-then-month-gt0
unfolding some_given
returns-then-month-gt0 c =
    simp (le-ltb _ _ c.if-year-gt0.false, lt-ltb _ _ c.if-month-gt0.true)

pub returns-else-month-gt0 : goal.returns-else-month-gt0
unfolding some_given
returns-else-month-gt0 c =
    simp (le-ltb _ _ c.if-year-gt0.false, le-ltb _ _ c.if-month-gt0.false)
