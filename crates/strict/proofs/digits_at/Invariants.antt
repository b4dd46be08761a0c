use lib.ListN.{drop}
use Rattle.strict.proofs.Runs.{Taken}
use Rattle.strict.proofs.digits_at.Given as goal

abbrev pub invariant-loop-n : goal.invariant-loop-n
invariant-loop-n l = Taken (drop l.at l.s) l.n l.v
