use Rattle.findings.specs.Lines.{still_first}
use Rattle.findings.proofs.still_first.Goals as goal

pub returns-then-first : goal.returns-then-first
unfolding still_first
returns-then-first c = simp c.if-first.true

pub returns : goal.returns
unfolding still_first
returns c = simp c.if-first.false
