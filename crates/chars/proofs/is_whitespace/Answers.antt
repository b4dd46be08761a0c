use Rattle.chars.specs.Classes.{is_whitespace}
use borrow.Author.Tests.{eq-eqb, ne_eqb}
use borrow.Author.Rules.{rules}
use Rattle.chars.proofs.is_whitespace.Goals as goal

pub returns-then-within : goal.returns-then-within
unfolding is_whitespace
returns-then-within c =
    simp (← c.within.ensures, c.if-within.true)

pub returns-then-code-eq32 : goal.returns-then-code-eq32
unfolding is_whitespace
returns-then-code-eq32 c =
    simp (← c.within.ensures, c.if-within.false, eq-eqb _ _ c.if-code-eq32.true)

pub returns-then-code-eq133 : goal.returns-then-code-eq133
unfolding is_whitespace
returns-then-code-eq133 c =
    simp (← c.within.ensures, c.if-within.false, ne_eqb _ _ c.if-code-eq32.false, eq-eqb _ _ c.if-code-eq133.true)

pub returns-then-code-eq160 : goal.returns-then-code-eq160
unfolding is_whitespace
returns-then-code-eq160 c =
    simp (← c.within.ensures, c.if-within.false, ne_eqb _ _ c.if-code-eq32.false, ne_eqb _ _ c.if-code-eq133.false, eq-eqb _ _ c.if-code-eq160.true)

pub returns : goal.returns
unfolding is_whitespace
returns c =
    simp (← c.within.ensures, c.if-within.false, ne_eqb _ _ c.if-code-eq32.false, ne_eqb _ _ c.if-code-eq133.false, ne_eqb _ _ c.if-code-eq160.false, ← c.is_wide_space.ensures)
