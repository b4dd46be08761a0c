use Rattle.answers.specs.Answer.{bit}
use Rattle.answers.proofs.bit.Goals as goal

pub returns-then-b : goal.returns-then-b
unfolding bit
returns-then-b c = simp c.if-b.true

pub returns : goal.returns
unfolding bit
returns c = simp c.if-b.false
