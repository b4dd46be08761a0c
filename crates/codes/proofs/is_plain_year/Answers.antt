use Rattle.codes.proofs.Writing.{plain-year}
use native.Mathlib.Omega.{arith}
use borrow.Author.Rules.{rules}
use Rattle.codes.proofs.is_plain_year.Goals as goal

pub returns : goal.returns
returns c = plain-year c.args.n (omega arith)
