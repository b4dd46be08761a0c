use Rattle.chars.specs.Signs.{signed}
use Rattle.strict.proofs.Signs.{negated, negated_fits, cast}
use mathlib.Core.Bool.{Bool}
use native.Mathlib.Omega.{arith}
use mathlib.Core.Path.{sym, ap, ◌∙◌}
use Rattle.strict.proofs.signed_long.Goals as goal

pub overflow_sub-result : goal.overflow_sub-result
overflow_sub-result c = negated_fits c.args.n (omega arith)

pub returns-then-negative : goal.returns-then-negative
unfolding signed
returns-then-negative c = negated c.args.n (omega arith) ∙ ap (λ (b : Bool). signed b c.args.n) (sym c.if-negative.true)

pub returns-else-negative : goal.returns-else-negative
unfolding signed
returns-else-negative c = cast c.args.n (omega arith) ∙ ap (λ (b : Bool). signed b c.args.n) (sym c.if-negative.false)
