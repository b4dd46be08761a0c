use native.Mathlib.Omega.{arith}
use mathlib.Core.Path.{sym}
use Rattle.refusals.proofs.Sums.{sum_over, sum_fits}
use borrow.Author.Rules.{rules}
use Rattle.codes.proofs.farther.Goals as goal

pub returns-then-b-a : goal.returns-then-b-a
returns-then-b-a c = sym (sum_over c.args.a c.args.b (omega arith))

pub returns : goal.returns
returns c = sym (sum_fits c.args.a c.args.b (omega arith))
