use Rattle.findings.proofs.Runs.{tried}
use Rattle.findings.proofs.put_piece.Goals as goal

pub returns : goal.returns
returns c = tried c.put_bytes.ensures c.forward.ensures
