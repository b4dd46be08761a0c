use native.Mathlib.Omega.{arith}
use lib.ListN.{length-set}
use Rattle.answers.proofs.Digits.{byte_put}
use borrow.Author.Rules.{rules}
use Rattle.answers.proofs.put_byte.Goals as goal

pub bounds-out-at-2 : goal.bounds-out-at-2
bounds-out-at-2 c = simp length-set (omega (arith, c.requires))

pub returns : goal.returns
returns c =
    byte_put c.args.out.now c.args.at c.args.b c.pair-d.ensures.0 c.pair-d.ensures.1
