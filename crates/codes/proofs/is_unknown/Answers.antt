use borrow.Author.Tests.{eq-eqb, ne_eqb}
use Rattle.codes.specs.Ported.{is_unknown}
use borrow.Author.Rules.{rules}
use Rattle.codes.proofs.is_unknown.Goals as goal

pub returns-then-s-at-eq88 : goal.returns-then-s-at-eq88
unfolding is_unknown
returns-then-s-at-eq88 c =
    simp (eq-eqb _ _ c.if-s-at-eq88.true)

pub returns : goal.returns
unfolding is_unknown
returns c = simp (ne_eqb _ _ c.if-s-at-eq88.false)
