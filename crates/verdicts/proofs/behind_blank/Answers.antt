use Rattle.verdicts.specs.Fields.{behind_blank}
use Rattle.verdicts.proofs.behind_blank.Goals as goal

pub returns-then-some_given : goal.returns-then-some_given
unfolding behind_blank
returns-then-some_given c = simp (← c.some_given.ensures, c.if-some_given.true, ← c.is_blank.ensures)

pub returns : goal.returns
unfolding behind_blank
returns c = simp (← c.some_given.ensures, c.if-some_given.false)
