use Rattle.answers.specs.Answer.{end_length}
use Rattle.answers.proofs.end_length.Goals as goal

pub returns-then-level : goal.returns-then-level
unfolding end_length
returns-then-level c = simp c.if-level.true

pub returns-else-level : goal.returns-else-level
unfolding end_length
returns-else-level c = simp c.if-level.false
