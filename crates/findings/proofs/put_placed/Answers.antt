use Rattle.findings.proofs.Runs.{ran-as}
use Rattle.findings.proofs.put_placed.Goals as goal

pub returns : goal.returns
returns c =
    ran-as c.put_counted.ensures (simp (← c.capped.ensures.0))
