use Rattle.chars.specs.Pick.{pick}
use Rattle.strict.specs.Matcher.{marked}
use borrow.Author.Tests.{eq-eqb, ne_eqb}
use Rattle.strict.proofs.marked.Goals as goal

pub returns-then-c-eq63 : goal.returns-then-c-eq63
unfolding marked pick
returns-then-c-eq63 c =
    simp (eq-eqb _ _ c.if-c-eq63.true, ← c.strictly.ensures)

pub returns-then-c-eq126 : goal.returns-then-c-eq126
unfolding marked pick
returns-then-c-eq126 c =
    simp (ne_eqb _ _ c.if-c-eq63.false, eq-eqb _ _ c.if-c-eq126.true, ← c.strictly-then-c-eq126.ensures)

pub returns-then-c-eq37 : goal.returns-then-c-eq37
unfolding marked pick
returns-then-c-eq37 c =
    simp (ne_eqb _ _ c.if-c-eq63.false, ne_eqb _ _ c.if-c-eq126.false, eq-eqb _ _ c.if-c-eq37.true, ← c.strictly-then-c-eq37.ensures)

pub returns : goal.returns
unfolding marked pick
returns c =
    simp (ne_eqb _ _ c.if-c-eq63.false, ne_eqb _ _ c.if-c-eq126.false, ne_eqb _ _ c.if-c-eq37.false)
