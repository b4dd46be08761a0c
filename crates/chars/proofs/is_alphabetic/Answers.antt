use Rattle.chars.specs.Classes.{is_alphabetic}
use borrow.Author.Tests.{eq-eqb, ne_eqb}
use borrow.Author.Rules.{rules}
use Rattle.chars.proofs.is_alphabetic.Goals as goal

pub returns-then-is_ascii_alphabetic : goal.returns-then-is_ascii_alphabetic
unfolding is_alphabetic
returns-then-is_ascii_alphabetic c =
    simp (← c.is_ascii_alphabetic.ensures, c.if-is_ascii_alphabetic.true)

pub returns-then-code-eq170 : goal.returns-then-code-eq170
unfolding is_alphabetic
returns-then-code-eq170 c =
    simp (← c.is_ascii_alphabetic.ensures, c.if-is_ascii_alphabetic.false, eq-eqb _ _ c.if-code-eq170.true)

pub returns-then-code-eq181 : goal.returns-then-code-eq181
unfolding is_alphabetic
returns-then-code-eq181 c =
    simp (← c.is_ascii_alphabetic.ensures, c.if-is_ascii_alphabetic.false, ne_eqb _ _ c.if-code-eq170.false, eq-eqb _ _ c.if-code-eq181.true)

pub returns-then-code-eq186 : goal.returns-then-code-eq186
unfolding is_alphabetic
returns-then-code-eq186 c =
    simp (← c.is_ascii_alphabetic.ensures, c.if-is_ascii_alphabetic.false, ne_eqb _ _ c.if-code-eq170.false, ne_eqb _ _ c.if-code-eq181.false, eq-eqb _ _ c.if-code-eq186.true)

pub returns-then-within : goal.returns-then-within
unfolding is_alphabetic
returns-then-within c =
    simp (← c.is_ascii_alphabetic.ensures, c.if-is_ascii_alphabetic.false, ne_eqb _ _ c.if-code-eq170.false, ne_eqb _ _ c.if-code-eq181.false, ne_eqb _ _ c.if-code-eq186.false, ← c.within.ensures, c.if-within.true)

pub returns-then-within-2 : goal.returns-then-within-2
unfolding is_alphabetic
returns-then-within-2 c =
    simp (← c.is_ascii_alphabetic.ensures, c.if-is_ascii_alphabetic.false, ne_eqb _ _ c.if-code-eq170.false, ne_eqb _ _ c.if-code-eq181.false, ne_eqb _ _ c.if-code-eq186.false, ← c.within.ensures, c.if-within.false, ← c.within-2.ensures, c.if-within-2.true)

pub returns : goal.returns
unfolding is_alphabetic
returns c =
    simp (← c.is_ascii_alphabetic.ensures, c.if-is_ascii_alphabetic.false, ne_eqb _ _ c.if-code-eq170.false, ne_eqb _ _ c.if-code-eq181.false, ne_eqb _ _ c.if-code-eq186.false, ← c.within.ensures, c.if-within.false, ← c.within-2.ensures, c.if-within-2.false, ← c.within-3.ensures)
