use Rattle.chars.specs.Pick.{pick}
use Rattle.codes.specs.Unpacked.{offset_of}
use borrow.Author.Tests.{eq-eqb, ne_eqb}
use Rattle.codes.proofs.offset_of.Goals as goal

pub returns-then-sort-eq0 : goal.returns-then-sort-eq0
unfolding offset_of pick
returns-then-sort-eq0 c = simp (eq-eqb _ _ c.if-sort-eq0.true)

pub returns-then-sort-eq1 : goal.returns-then-sort-eq1
unfolding offset_of pick
returns-then-sort-eq1 c =
    simp (ne_eqb _ _ c.if-sort-eq0.false, eq-eqb _ _ c.if-sort-eq1.true)

pub returns : goal.returns
unfolding offset_of pick
returns c =
    simp (ne_eqb _ _ c.if-sort-eq0.false, ne_eqb _ _ c.if-sort-eq1.false)
