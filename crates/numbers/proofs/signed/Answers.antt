use mathlib.Core.Bool.{Bool}
use native.Mathlib.Omega.{arith}
use mathlib.Core.Path.{sym, ap, ◌∙◌}
use Rattle.chars.specs.Signs.{signed}
use Rattle.numbers.proofs.Sums.{taken-fits, taken, cast}
use lib.IntN.{pos, neg_ℤ, +ℤ_idl}
use borrow.Author.Rules.{rules}
use Rattle.numbers.proofs.signed.Goals as goal

pub overflow_sub-result : goal.overflow_sub-result
overflow_sub-result c = taken-fits 0 c.args.n (omega arith)

pub returns-then-negative : goal.returns-then-negative
unfolding signed
returns-then-negative c = taken 0 c.args.n (omega arith) ∙ +ℤ_idl (neg_ℤ (pos c.args.n)) ∙ ap (λ (b : Bool). signed b c.args.n) (sym c.if-negative.true)

pub returns-else-negative : goal.returns-else-negative
unfolding signed
returns-else-negative c = cast 0 c.args.n (omega arith) ∙ ap (λ (b : Bool). signed b c.args.n) (sym c.if-negative.false)
