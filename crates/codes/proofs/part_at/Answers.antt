use Rattle.codes.specs.Points.{counted_from, part_at}
use Rattle.chars.specs.Pick.{pick}
use borrow.Author.Tests.{eq-eqb, ne_eqb}
use borrow.Author.Rules.{rules}
use Rattle.codes.proofs.part_at.Goals as goal

pub returns-then-s-at-ne45 : goal.returns-then-s-at-ne45
unfolding part_at counted_from pick
returns-then-s-at-ne45 c = simp (ne_eqb _ _ c.if-s-at-ne45.true)

pub returns-then-n-eq0 : goal.returns-then-n-eq0
unfolding part_at counted_from pick
returns-then-n-eq0 c =
    simp (eq-eqb _ _ c.if-s-at-ne45.false, ← c.two-n.ensures.0, eq-eqb _ _ c.if-n-eq0.true)

pub returns : goal.returns
unfolding part_at counted_from pick
returns c =
    simp (eq-eqb _ _ c.if-s-at-ne45.false, ← c.two-n.ensures.0, ne_eqb _ _ c.if-n-eq0.false)
