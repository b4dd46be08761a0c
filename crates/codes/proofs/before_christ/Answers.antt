use native.Mathlib.Omega.{arith}
use Rattle.codes.specs.Words.{twos}
use Rattle.codes.proofs.Numbers.{era-twos}
use borrow.Author.Rules.{rules}
use Rattle.codes.proofs.before_christ.Goals as goal

pub returns-then-n-eq1 : goal.returns-then-n-eq1
unfolding twos
returns-then-n-eq1 c = rw c.if-n-eq1.true

pub returns : goal.returns
returns c = rw (c.wide_year.ensures, era-twos c.args.n (omega arith))
