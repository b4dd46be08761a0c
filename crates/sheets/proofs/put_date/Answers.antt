use Rattle.sheets.proofs.Goings.{going, in-64}
use Rattle.findings.specs.Lines.{date_line}
use native.Mathlib.Omega.{arith}
use Rattle.sheets.proofs.put_date.Goals as goal

pub advanced-requires : goal.advanced-requires
advanced-requires c =
    let a = c.args in
    in-64 (date_line a.line a.key.now a.column a.cell.now a.v a.windowed) a.out.now a.p (omega arith) c.write_date_finding-w.ensures.value c.write_date_finding-w.ensures.out_after (omega arith)

pub returns : goal.returns
returns c =
    let a = c.args in
    going (date_line a.line a.key.now a.column a.cell.now a.v a.windowed) a.out.now a.p (omega arith) c.write_date_finding-w.ensures.value c.write_date_finding-w.ensures.out_after c.advanced.ensures
