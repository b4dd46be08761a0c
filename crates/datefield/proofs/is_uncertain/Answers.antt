use Rattle.datefield.specs.Text.{is_uncertain}
use borrow.Author.Tests.{eq-eqb, ne_eqb}
use Rattle.datefield.proofs.is_uncertain.Goals as goal

pub returns-then-mark-eq63 : goal.returns-then-mark-eq63
unfolding is_uncertain
returns-then-mark-eq63 c = simp (eq-eqb _ _ c.if-mark-eq63.true)

pub returns-else-mark-eq63 : goal.returns-else-mark-eq63
unfolding is_uncertain
returns-else-mark-eq63 c = simp (ne_eqb _ _ c.if-mark-eq63.false)
