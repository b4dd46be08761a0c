use Rattle.scanner.specs.Scan.{stands_at}
use borrow.Author.Rules.{rules}
use Rattle.scanner.proofs.at.Goals as goal

pub returns : goal.returns
unfolding stands_at
returns c = simp (← c.match_len.ensures)
