use borrow.Author.Rules.{rules}
use Rattle.scanner.specs.Scan.{run_at}
use Rattle.scanner.proofs.run_at.Goals as goal

pub returns : goal.returns
unfolding run_at
returns c = simp (← c.eat_while.ensures)
