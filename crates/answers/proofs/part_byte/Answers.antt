use Rattle.answers.proofs.Coded.{no_part, some-part}
use Rattle.answers.proofs.part_byte.Goals as goal

pub returns-then-has-eq0 : goal.returns-then-has-eq0
returns-then-has-eq0 c = no_part c.args.n c.if-has-eq0.true

pub returns : goal.returns
returns c = some-part c.if-has-eq0.false
