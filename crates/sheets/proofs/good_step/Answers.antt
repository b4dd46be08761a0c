use Rattle.sheets.proofs.Stepping.{stepped-took}
use Rattle.sheets.proofs.Bounds.{checked-most}
use Rattle.headers.specs.Tables.{cells_from}
use Rattle.sheets.specs.Steps.{behind, row_step}
use native.Mathlib.Omega.{arith}
use mathlib.Core.Path.{ap, ◌∙◌}
use Rattle.sheets.specs.declared.Phase.TheVariants.{Rows}
use Rattle.sheets.proofs.good_step.Goals as goal

pub shape_of-out : goal.shape_of-out
shape_of-out c = c.checked_lines-s.ensures.text.same

pub returns : goal.returns
unfolding row_step
returns c = let a = c.args in
    let b = c.checked_lines-s.ensures in
    let g = c.well_formed.1.1.1.1.0 in
    stepped-took b.text (checked-most a.st.line a.st.columns a.st.cells a.block.now a.end a.count (cells_from a.block.now a.table.now 0 a.count) (omega (arith, g))) (omega arith) c.requires.1 a.end
    (c.behind.ensures ∙ ap (behind a.st a.block.now a.end Rows) b.tally)
