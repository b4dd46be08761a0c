use Rattle.findings.proofs.Runs.{both}
use Rattle.findings.specs.Escapes.{escaped}
use Rattle.findings.specs.Lines.{finding, bad_row_line}
use Rattle.findings.proofs.put_bad_row.Goals as goal

pub returns : goal.returns
unfolding bad_row_line finding escaped
returns c =
    both c.put_number-i.ensures (both c.put_piece-j.ensures (both c.put_row_fault-k.ensures c.put_piece.ensures))
