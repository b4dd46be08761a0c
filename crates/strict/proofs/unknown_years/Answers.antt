use Rattle.strict.proofs.Digits.{digit}
use native.Mathlib.Omega.{arith}
use mathlib.Core.Path.{sym, ◌∙◌}
use Rattle.chars.specs.Pick.{pick}
use Rattle.strict.specs.Matcher.{unknown_years}
use borrow.Author.Tests.{eq-eqb, ne_eqb}
use Rattle.strict.proofs.unknown_years.Goals as goal

pub returns-then-c-eq88 : goal.returns-then-c-eq88
unfolding unknown_years pick
returns-then-c-eq88 c =
    simp (← c.byte_at-c.ensures, eq-eqb _ _ c.if-c-eq88.true, ← c.wide-first.ensures, ← c.years.ensures)

pub overflow_sub-c : goal.overflow_sub-c
overflow_sub-c c = omega (arith, digit c.byte_at-c.result (sym c.is_digit.ensures ∙ c.if-is_digit.true))

pub returns-then-is_digit : goal.returns-then-is_digit
unfolding unknown_years pick
returns-then-is_digit c =
    simp (← c.byte_at-c.ensures, ne_eqb _ _ c.if-c-eq88.false, ← c.is_digit.ensures, c.if-is_digit.true, ← c.wide.ensures, ← c.wide-then-is_digit.ensures, ← c.years-then-is_digit.ensures)

pub returns : goal.returns
unfolding unknown_years pick
returns c =
    simp (← c.byte_at-c.ensures, ne_eqb _ _ c.if-c-eq88.false, ← c.is_digit.ensures, c.if-is_digit.false)
