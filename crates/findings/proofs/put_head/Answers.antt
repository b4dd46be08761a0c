use Rattle.findings.proofs.Runs.{both}
use Rattle.findings.proofs.put_head.Goals as goal

pub returns : goal.returns
returns c =
    both c.put_number-i.ensures (both c.put_piece-j.ensures (both c.put_escaped-k.ensures c.put_piece.ensures))
