use borrow.Author.Rules.{rules}
use Rattle.answers.proofs.low.Goals as goal

pub returns : goal.returns
returns c = c.pair.ensures.1
