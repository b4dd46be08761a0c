use Rattle.codes.specs.Words.{twos}
use native.Mathlib.Omega.{arith}
use borrow.Author.Rules.{rules}
use Rattle.codes.proofs.with_day.Goals as goal

pub overflow_add-result : goal.overflow_add-result
unfolding twos
overflow_add-result c = omega arith

pub overflow_add-result-2 : goal.overflow_add-result-2
unfolding twos
overflow_add-result-2 c = omega arith
