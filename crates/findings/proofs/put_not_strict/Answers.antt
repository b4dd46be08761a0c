use Rattle.findings.proofs.Runs.{both}
use Rattle.findings.proofs.put_not_strict.Goals as goal

pub returns : goal.returns
returns c =
    both c.put_piece-j.ensures (both c.put_written-k.ensures c.put_window.ensures)
