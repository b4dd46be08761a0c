use Rattle.codes.specs.Lists.{one_normal}
use borrow.Author.Tests.{eq-eqb, ne_eqb}
use borrow.Author.Rules.{rules}
use Rattle.reader.proofs.is_one_normal.Goals as goal

pub returns-then-list-eq0 : goal.returns-then-list-eq0
unfolding one_normal
returns-then-list-eq0 c =
    simp (eq-eqb _ _ c.if-list-eq4.true, eq-eqb _ _ c.if-list-eq0.true)

pub returns-else-list-eq0 : goal.returns-else-list-eq0
unfolding one_normal
returns-else-list-eq0 c =
    simp (eq-eqb _ _ c.if-list-eq4.true, ne_eqb _ _ c.if-list-eq0.false)

pub returns-else-list-eq4 : goal.returns-else-list-eq4
unfolding one_normal
returns-else-list-eq4 c = simp (ne_eqb _ _ c.if-list-eq4.false)
