use Rattle.numbers.proofs.Sums.{taken, taken-fits}
use native.Mathlib.Omega.{arith}
use Rattle.fields.proofs.before_christ.Goals as goal

pub overflow_sub-result : goal.overflow_sub-result
overflow_sub-result c = taken-fits 1 c.args.n (omega arith)

pub returns : goal.returns
returns c = taken 1 c.args.n (omega arith)
