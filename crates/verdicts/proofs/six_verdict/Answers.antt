use Rattle.verdicts.specs.Fields.{six_verdict}
use Rattle.chars.specs.Pick.{pick}
use Rattle.verdicts.proofs.six_verdict.Goals as goal

pub returns-then-some_given : goal.returns-then-some_given
unfolding six_verdict pick
returns-then-some_given c =
    simp (← c.some_given.ensures, c.if-some_given.true, ← c.given_verdict.ensures)

pub returns-then-some_given-2 : goal.returns-then-some_given-2
unfolding six_verdict pick
returns-then-some_given-2 c =
    simp (← c.some_given.ensures, c.if-some_given.false, ← c.some_given-2.ensures, c.if-some_given-2.true, ← c.given_verdict-then-some_given-2.ensures)

pub returns : goal.returns
unfolding six_verdict pick
returns c =
    simp (← c.some_given.ensures, c.if-some_given.false, ← c.some_given-2.ensures, c.if-some_given-2.false)
