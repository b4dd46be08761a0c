use native.Mathlib.Omega.{arith}
use mathlib.Core.Path.{ap}
use Prim.Native.Nat.{ℕ}
use Rattle.codes.specs.Words.{words}
use borrow.Author.Rules.{rules}
use Rattle.codes.proofs.refused.Goals as goal

pub returns : goal.returns
returns c = ap (λ (n : ℕ). words c.args.start c.args.end 0 0 0 0 n) (omega arith)
