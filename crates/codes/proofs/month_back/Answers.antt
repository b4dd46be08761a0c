use Rattle.chars.specs.Pick.{pick}
use Rattle.codes.specs.Unpacked.{month_of}
use borrow.Author.Tests.{eq-eqb, ne_eqb}
use Rattle.codes.proofs.month_back.Goals as goal

pub returns-then-has-eq0 : goal.returns-then-has-eq0
unfolding month_of pick
returns-then-has-eq0 c = simp (eq-eqb _ _ c.if-has-eq0.true)

pub returns : goal.returns
unfolding month_of pick
returns c = simp (ne_eqb _ _ c.if-has-eq0.false)
