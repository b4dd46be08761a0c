use Rattle.codes.proofs.Unpacking.{from_low, from-high, high_fits}
use native.Mathlib.Omega.{arith}
use borrow.Author.Rules.{rules}
use Rattle.codes.proofs.from_twos.Goals as goal

pub returns-then-n-lt2147483648 : goal.returns-then-n-lt2147483648
returns-then-n-lt2147483648 c = from_low c.args.n c.if-n-lt2147483648.true

pub overflow_sub-result-2 : goal.overflow_sub-result-2
overflow_sub-result-2 c = high_fits c.args.n (omega arith) (omega arith)

pub returns : goal.returns
returns c = from-high c.args.n (omega arith) (omega arith)
