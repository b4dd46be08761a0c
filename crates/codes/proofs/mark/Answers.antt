use Rattle.datefield.specs.Text.{is_uncertain, is_approximate}
use mathlib.Core.Path.{refl}
use borrow.Author.Tests.{ne_eqb}
use Rattle.codes.proofs.mark.Goals as goal

pub returns-then-b-eq63 : goal.returns-then-b-eq63
unfolding is_uncertain is_approximate
returns-then-b-eq63 c = rw c.if-b-eq63.true refl

pub returns-then-b-eq126 : goal.returns-then-b-eq126
unfolding is_uncertain is_approximate
returns-then-b-eq126 c = rw c.if-b-eq126.true refl

pub returns-then-b-eq37 : goal.returns-then-b-eq37
unfolding is_uncertain is_approximate
returns-then-b-eq37 c = rw c.if-b-eq37.true refl

pub returns : goal.returns
unfolding is_uncertain is_approximate
returns c =
    simp (ne_eqb _ _ c.if-b-eq63.false, ne_eqb _ _ c.if-b-eq126.false, ne_eqb _ _ c.if-b-eq37.false)
