use Rattle.strict.proofs.Digits.{digit, Digit}
use native.Mathlib.Omega.{arith}
use mathlib.Core.Path.{sym, ◌∙◌}
use Rattle.strict.proofs.Places.{here}
use lib.Seq.{get_or-drop}
use Rattle.chars.specs.Pick.{pick}
use Rattle.strict.specs.Matcher.{two}
use Rattle.strict.proofs.two_at.Goals as goal
use Rattle.strict.proofs.two_at.Goals.{Then-is_digit-2}

-- where both are digits
first : (c : Then-is_digit-2) → Digit c.byte_at-a.result
first c = digit _ (sym c.is_digit.ensures ∙ c.if-is_digit.true)

second : (c : Then-is_digit-2) → Digit c.byte_at-b.result
second c = digit _ (sym c.is_digit-then-is_digit.ensures ∙ c.if-is_digit-2.true)

pub overflow_sub-result : goal.overflow_sub-result
overflow_sub-result c = omega (arith, first (goal.at.overflow_sub-result c).Then-is_digit-2)

pub overflow_mul-result : goal.overflow_mul-result
overflow_mul-result c = omega (arith, first (goal.at.overflow_mul-result c).Then-is_digit-2)

pub overflow_sub-result-then-is_digit-2 : goal.overflow_sub-result-then-is_digit-2
overflow_sub-result-then-is_digit-2 c = omega (arith, second (goal.at.overflow_sub-result-then-is_digit-2 c).Then-is_digit-2)

pub overflow_add-result : goal.overflow_add-result
overflow_add-result c = omega (arith, first (goal.at.overflow_add-result c).Then-is_digit-2, second (goal.at.overflow_add-result c).Then-is_digit-2)

pub returns-then-is_digit-2 : goal.returns-then-is_digit-2
unfolding two pick
returns-then-is_digit-2 c =
    simp (here, get_or-drop, ← c.byte_at-a.ensures, ← c.byte_at-b.ensures, ← c.is_digit.ensures, c.if-is_digit.true, ← c.is_digit-then-is_digit.ensures, c.if-is_digit-2.true)

pub returns-else-is_digit-2 : goal.returns-else-is_digit-2
unfolding two pick
returns-else-is_digit-2 c =
    simp (here, get_or-drop, ← c.byte_at-a.ensures, ← c.byte_at-b.ensures, ← c.is_digit.ensures, c.if-is_digit.true, ← c.is_digit-then-is_digit.ensures, c.if-is_digit-2.false)

pub returns-else-is_digit : goal.returns-else-is_digit
unfolding two pick
returns-else-is_digit c =
    simp (here, get_or-drop, ← c.byte_at-a.ensures, ← c.byte_at-b.ensures, ← c.is_digit.ensures, c.if-is_digit.false)
