use Rattle.findings.proofs.Runs.{both}
use Rattle.findings.specs.Lines.{unread_line}
use Rattle.findings.proofs.put_unread.Goals as goal

pub returns : goal.returns
unfolding unread_line
returns c =
    both c.put_piece-j.ensures (both c.put_unusable-k.ensures c.put_piece.ensures)
