use Rattle.chars.specs.Pick.{pick}
use Rattle.codes.specs.Points.{two_of}
use Rattle.strict.proofs.Digits.{digit}
use native.Mathlib.Omega.{arith}
use mathlib.Core.Path.{sym, ◌∙◌}
use borrow.Author.Rules.{rules}
use Rattle.codes.proofs.two.Goals as goal

pub overflow_sub-result : goal.overflow_sub-result
overflow_sub-result c =
    let p = digit c.args.a (sym c.is_digit.ensures ∙ c.if-is_digit.true) in
    let q = digit c.args.b (sym c.is_digit-then-is_digit.ensures ∙ c.if-is_digit-2.true) in
    omega (arith, p.low, q.low)

pub overflow_mul-result : goal.overflow_mul-result
overflow_mul-result c =
    let p = digit c.args.a (sym c.is_digit.ensures ∙ c.if-is_digit.true) in
    let q = digit c.args.b (sym c.is_digit-then-is_digit.ensures ∙ c.if-is_digit-2.true) in
    record { fits = omega (arith, p.low, p.high, q.low, q.high) }

pub overflow_sub-result-then-is_digit-2 : goal.overflow_sub-result-then-is_digit-2
overflow_sub-result-then-is_digit-2 c =
    let p = digit c.args.a (sym c.is_digit.ensures ∙ c.if-is_digit.true) in
    let q = digit c.args.b (sym c.is_digit-then-is_digit.ensures ∙ c.if-is_digit-2.true) in
    omega (arith, p.low, q.low)

pub overflow_add-result : goal.overflow_add-result
overflow_add-result c =
    let p = digit c.args.a (sym c.is_digit.ensures ∙ c.if-is_digit.true) in
    let q = digit c.args.b (sym c.is_digit-then-is_digit.ensures ∙ c.if-is_digit-2.true) in
    record { fits = omega (arith, p.low, p.high, q.low, q.high) }

pub returns-then-is_digit-2 : goal.returns-then-is_digit-2
unfolding two_of pick
returns-then-is_digit-2 c =
    let p = digit c.args.a (sym c.is_digit.ensures ∙ c.if-is_digit.true) in
    let q = digit c.args.b (sym c.is_digit-then-is_digit.ensures ∙ c.if-is_digit-2.true) in
    (simp (← c.is_digit.ensures, c.if-is_digit.true, ← c.is_digit-then-is_digit.ensures, c.if-is_digit-2.true), omega (arith, p.low, p.high, q.low, q.high))

pub returns-else-is_digit-2 : goal.returns-else-is_digit-2
unfolding two_of pick
returns-else-is_digit-2 c =
    (simp (← c.is_digit.ensures, c.if-is_digit.true, ← c.is_digit-then-is_digit.ensures, c.if-is_digit-2.false), search rules)

pub returns-else-is_digit : goal.returns-else-is_digit
unfolding two_of pick
returns-else-is_digit c =
    (simp (← c.is_digit.ensures, c.if-is_digit.false), search rules)
