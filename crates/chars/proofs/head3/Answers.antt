use lib.Bits.{and_mask}
use borrow.Author.Rules.{rules}
use Rattle.chars.proofs.head3.Goals as goal

pub returns : goal.returns
returns c = cc (and_mask c.args.b 4)
