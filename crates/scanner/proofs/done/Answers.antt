use borrow.Author.Rules.{rules}
use Rattle.scanner.specs.Scan.{done_at}
use Rattle.scanner.proofs.done.Goals as goal

pub returns : goal.returns
unfolding done_at
returns c = search rules
