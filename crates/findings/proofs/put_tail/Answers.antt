use Rattle.findings.proofs.Runs.{both}
use Rattle.findings.proofs.put_tail.Goals as goal

pub returns : goal.returns
returns c =
    both c.put_piece-h.ensures (both c.put_sort-i.ensures (both c.put_piece-j.ensures (both c.put_message-k.ensures c.put_piece.ensures)))
