use Rattle.findings.specs.Escapes.{is_marked}
use borrow.Author.Tests.{eq-eqb, ne_eqb}
use Rattle.findings.proofs.is_marked.Goals as goal

pub returns-then-b-eq34 : goal.returns-then-b-eq34
unfolding is_marked
returns-then-b-eq34 c = simp (eq-eqb _ _ c.if-b-eq34.true)

pub returns : goal.returns
unfolding is_marked
returns c = simp (ne_eqb _ _ c.if-b-eq34.false)
