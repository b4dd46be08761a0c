use Rattle.sheets.specs.Steps.{last_lines}
use Rattle.sheets.proofs.Goings.{going, in-64}
use native.Mathlib.Omega.{arith}
use Rattle.sheets.proofs.put_summary.Goals as goal

pub advanced-requires : goal.advanced-requires
advanced-requires c =
    let a = c.args in
    in-64 (last_lines a.t) a.out.now a.p (omega arith) c.write_summary-w.ensures.value c.write_summary-w.ensures.out_after (omega arith)

pub returns : goal.returns
returns c =
    let a = c.args in
    going (last_lines a.t) a.out.now a.p (omega arith) c.write_summary-w.ensures.value c.write_summary-w.ensures.out_after c.advanced.ensures
