use Rattle.scanner.proofs.Runs.{run-start, run_end}
use Rattle.numbers.specs.Number.{parse_unsigned_int, run_at}
use borrow.Author.Rules.{rules}
use Rattle.numbers.proofs.parse_unsigned_int.Goals as goal

pub returns : goal.returns
unfolding parse_unsigned_int run_at
returns c =
    let e = c.next_run.ensures in
    simp (← run-start _ _ _ _ e, ← run_end _ _ _ _ e, ← c.number_of.ensures)
