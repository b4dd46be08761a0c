use Rattle.answers.specs.Answer.{shift_bytes}
use borrow.Author.Rules.{rules}
use Rattle.answers.proofs.shift_bytes.Goals as goal

pub returns-then-positive : goal.returns-then-positive
unfolding shift_bytes
returns-then-positive c =
    simp (c.in-Offset.is, c.if-positive.true)

pub returns-in-Utc : goal.returns-in-Utc
unfolding shift_bytes
returns-in-Utc c = simp c.in-Utc.is

pub returns-else-positive : goal.returns-else-positive
unfolding shift_bytes
returns-else-positive c =
    simp (c.in-Offset.is, c.if-positive.false)
