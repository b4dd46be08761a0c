use Rattle.codes.specs.Words.{twos}
use native.Mathlib.Omega.{arith}
use borrow.Author.Rules.{rules}
use Rattle.codes.proofs.with_month.Goals as goal

pub returns : goal.returns
unfolding twos
returns c = omega arith
