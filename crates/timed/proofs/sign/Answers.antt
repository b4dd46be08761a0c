use Rattle.timed.specs.Texts.{sign}
use Rattle.timed.proofs.sign.Goals as goal

pub returns-then-positive : goal.returns-then-positive
unfolding sign
returns-then-positive c = simp c.if-positive.true

pub returns-else-positive : goal.returns-else-positive
unfolding sign
returns-else-positive c = simp c.if-positive.false
