use Rattle.findings.specs.Lines.{six_line}
use Rattle.sheets.proofs.Goings.{going, in-64}
use native.Mathlib.Omega.{arith}
use Rattle.sheets.proofs.put_six.Goals as goal

pub advanced-requires : goal.advanced-requires
advanced-requires c = let a = c.args in
    let k = c.well_formed.1.1.1.1.1.1.1.1.1.0 in
    in-64 (six_line a.line a.key.now a.year.now a.month.now a.day.now a.endyear.now a.endmonth.now a.endday.now a.v) a.out.now a.p (omega arith) c.write_six_finding-w.ensures.value c.write_six_finding-w.ensures.out_after (omega (arith, k))

pub returns : goal.returns
returns c = let a = c.args in
    going (six_line a.line a.key.now a.year.now a.month.now a.day.now a.endyear.now a.endmonth.now a.endday.now a.v) a.out.now a.p (omega arith) c.write_six_finding-w.ensures.value c.write_six_finding-w.ensures.out_after c.advanced.ensures
