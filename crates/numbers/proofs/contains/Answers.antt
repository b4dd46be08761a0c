use Rattle.numbers.specs.Number.{admits}
use borrow.Author.Tests.{eq-eqb, ne_eqb}
use borrow.Author.Rules.{rules}
use Rattle.numbers.proofs.contains.Goals as goal

pub returns-then-n-eq1 : goal.returns-then-n-eq1
unfolding admits
returns-then-n-eq1 c =
    simp (c.in-OneOrTwo.is, eq-eqb _ _ c.if-n-eq1.true)

pub returns-else-n-eq1 : goal.returns-else-n-eq1
unfolding admits
returns-else-n-eq1 c =
    simp (c.in-OneOrTwo.is, ne_eqb _ _ c.if-n-eq1.false)

pub returns-in-Two : goal.returns-in-Two
unfolding admits
returns-in-Two c = simp c.in-Two.is

pub returns-in-Four : goal.returns-in-Four
unfolding admits
returns-in-Four c = simp c.in-Four.is
