use Rattle.scanner.specs.Scan.{next_run}
use Rattle.scanner.proofs.next_run.Goals as goal

-- the text of each struct is the one before it, so the run is found in the text that is lent
pub returns : goal.returns
unfolding next_run
returns c = cc (c.new.ensures.0, c.new.ensures.1, c.eat_whitespace.ensures.0, c.eat_whitespace.ensures.1, c.run.ensures)
