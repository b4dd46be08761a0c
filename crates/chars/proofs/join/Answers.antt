use Rattle.chars.proofs.Joined.{joined}
use Prim.Native.Nat.{◌%◌, ◌^◌}
use native.Mathlib.Omega.{arith}
use lib.Bits.{and_mask}
use mathlib.Core.Path.{◌∙◌}
use borrow.Author.Rules.{rules}
use Rattle.chars.proofs.join.Goals as goal

pub returns : goal.returns
returns c = let e = c.wide.ensures ∙ and_mask c.args.next 6 in
    rw e (joined 6 c.args.bits (c.args.next % 64) (2 ^ 32) (omega arith) (omega arith))
