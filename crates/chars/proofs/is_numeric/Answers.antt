use Rattle.chars.specs.Classes.{is_numeric}
use borrow.Author.Tests.{eq-eqb, ne_eqb}
use borrow.Author.Rules.{rules}
use Rattle.chars.proofs.is_numeric.Goals as goal

pub returns-then-is_ascii_digit : goal.returns-then-is_ascii_digit
unfolding is_numeric
returns-then-is_ascii_digit c =
    simp (← c.is_ascii_digit.ensures, c.if-is_ascii_digit.true)

pub returns-then-within : goal.returns-then-within
unfolding is_numeric
returns-then-within c =
    simp (← c.is_ascii_digit.ensures, c.if-is_ascii_digit.false, ← c.within.ensures, c.if-within.true)

pub returns-then-code-eq185 : goal.returns-then-code-eq185
unfolding is_numeric
returns-then-code-eq185 c =
    simp (← c.is_ascii_digit.ensures, c.if-is_ascii_digit.false, ← c.within.ensures, c.if-within.false, eq-eqb _ _ c.if-code-eq185.true)

pub returns : goal.returns
unfolding is_numeric
returns c =
    simp (← c.is_ascii_digit.ensures, c.if-is_ascii_digit.false, ← c.within.ensures, c.if-within.false, ne_eqb _ _ c.if-code-eq185.false, ← c.within-2.ensures)
