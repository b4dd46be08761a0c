use Rattle.findings.proofs.Runs.{both}
use Rattle.findings.specs.Escapes.{quoted}
use Rattle.findings.proofs.put_quoted.Goals as goal

pub returns : goal.returns
unfolding quoted
returns c =
    both c.put_piece-j.ensures (both c.put_escaped-k.ensures c.put_piece.ensures)
