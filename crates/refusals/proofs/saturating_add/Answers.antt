use Rattle.refusals.proofs.Sums.{sum_over, sum_fits}
use native.Mathlib.Omega.{arith}
use mathlib.Core.Path.{sym}
use borrow.Author.Rules.{rules}
use Rattle.refusals.proofs.saturating_add.Goals as goal

pub returns-then-x-b : goal.returns-then-x-b
returns-then-x-b c = sym (sum_fits c.args.a c.args.b (omega arith))

pub returns-else-x-b : goal.returns-else-x-b
returns-else-x-b c = sym (sum_over c.args.a c.args.b (omega arith))
