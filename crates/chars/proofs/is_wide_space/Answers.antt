use borrow.Author.Tests.{eq-eqb, ne_eqb}
use borrow.Author.Rules.{rules}
use Rattle.chars.proofs.is_wide_space.Goals as goal

pub returns-then-within : goal.returns-then-within
returns-then-within c =
    simp (← c.within.ensures, c.if-within.true)

pub returns-then-within-2 : goal.returns-then-within-2
returns-then-within-2 c =
    simp (← c.within.ensures, c.if-within.false, ← c.within-2.ensures, c.if-within-2.true)

pub returns-then-code-eq8239 : goal.returns-then-code-eq8239
returns-then-code-eq8239 c =
    simp (← c.within.ensures, c.if-within.false, ← c.within-2.ensures, c.if-within-2.false, eq-eqb _ _ c.if-code-eq8239.true)

pub returns : goal.returns
returns c =
    simp (← c.within.ensures, c.if-within.false, ← c.within-2.ensures, c.if-within-2.false, ne_eqb _ _ c.if-code-eq8239.false)
