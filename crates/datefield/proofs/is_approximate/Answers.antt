use Rattle.datefield.specs.Text.{is_approximate}
use borrow.Author.Tests.{eq-eqb, ne_eqb}
use Rattle.datefield.proofs.is_approximate.Goals as goal

pub returns-then-mark-eq126 : goal.returns-then-mark-eq126
unfolding is_approximate
returns-then-mark-eq126 c = simp (eq-eqb _ _ c.if-mark-eq126.true)

pub returns-else-mark-eq126 : goal.returns-else-mark-eq126
unfolding is_approximate
returns-else-mark-eq126 c = simp (ne_eqb _ _ c.if-mark-eq126.false)
