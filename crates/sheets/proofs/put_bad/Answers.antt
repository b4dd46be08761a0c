use Rattle.sheets.proofs.Goings.{going, in-64}
use Rattle.findings.specs.Lines.{bad_row_line}
use native.Mathlib.Omega.{arith}
use Rattle.sheets.proofs.put_bad.Goals as goal

pub advanced-requires : goal.advanced-requires
advanced-requires c =
    let a = c.args in
    in-64 (bad_row_line a.line a.fault) a.out.now a.p (omega arith) c.write_bad_row-w.ensures.value c.write_bad_row-w.ensures.out_after (omega arith)

pub returns : goal.returns
returns c =
    let a = c.args in
    going (bad_row_line a.line a.fault) a.out.now a.p (omega arith) c.write_bad_row-w.ensures.value c.write_bad_row-w.ensures.out_after c.advanced.ensures
