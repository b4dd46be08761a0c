use Rattle.findings.proofs.Bounds.{summary-most}
use Rattle.sheets.proofs.Stepping.{stepped-over}
use native.Mathlib.Omega.{arith}
use Rattle.sheets.proofs.last_step.Goals as goal

pub shape_of-out : goal.shape_of-out
shape_of-out c = c.put_summary.ensures.same

pub returns : goal.returns
returns c = let t = c.args.t in
    stepped-over c.put_summary.ensures (summary-most t.rows t.strict t.otherwise t.refused t.bad (omega arith) (omega arith) (omega arith) (omega arith) (omega arith)) (omega arith) (omega arith)
