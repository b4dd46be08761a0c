use Rattle.findings.proofs.Runs.{both}
use Rattle.findings.proofs.put_counted.Goals as goal

pub returns : goal.returns
returns c =
    both c.put_piece-k.ensures c.put_number.ensures
