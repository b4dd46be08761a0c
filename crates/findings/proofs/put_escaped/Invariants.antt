use lib.ListN.{take}
use Rattle.findings.specs.Escapes.{escaped}
use Rattle.findings.specs.Runs.{Ran}
use Rattle.findings.proofs.put_escaped.Given as goal

abbrev pub invariant-loop-b : goal.invariant-loop-b
invariant-loop-b l = Ran (escaped (take l.b-index l.t)) l.initial.out l.at l.out l.k
