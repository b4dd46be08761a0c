use Rattle.hexes.proofs.Laws.{value-is}
use borrow.Author.Rules.{rules}
use Rattle.hexes.proofs.digit.Goals as goal

pub returns : goal.returns
returns c = value-is c.args.b c.requires
