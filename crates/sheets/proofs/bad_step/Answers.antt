use Rattle.sheets.proofs.Stepping.{stepped-took}
use Rattle.sheets.specs.Steps.{behind}
use Rattle.findings.proofs.Bounds.{bad-row-most}
use native.Mathlib.Omega.{arith}
use mathlib.Core.Path.{ap, ◌∙◌}
use Rattle.headers.specs.declared.RowFault.TheVariants.{Broken}
use Rattle.sheets.proofs.bad_step.Goals as goal

pub shape_of-out : goal.shape_of-out
shape_of-out c = c.bad_row-s.ensures.text.same

pub returns : goal.returns
returns c = let a = c.args in
    let b = c.bad_row-s.ensures in
    let g = c.well_formed.1.1.1.1.0 in
    stepped-took b.text (bad-row-most a.st.line (Broken a.fault) (omega (arith, g))) (omega arith) c.requires.1 a.n
    (c.behind.ensures ∙ ap (behind a.st a.block.now a.n a.phase) b.tally)
