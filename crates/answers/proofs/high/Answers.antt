use borrow.Author.Rules.{rules}
use Rattle.answers.proofs.high.Goals as goal

pub returns : goal.returns
returns c = c.pair.ensures.0
