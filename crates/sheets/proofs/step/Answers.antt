use Rattle.sheets.specs.Reports.{table_in}
use mathlib.Core.Path.{refl}
use Rattle.sheets.specs.declared.Phase.TheVariants.{Rows, Skipping, Start}
use Rattle.sheets.proofs.Stepping.{no_step, table_kept, with-room}
use borrow.Author.Rules.{rules}
use Rattle.sheets.proofs.step.Goals as goal

pub returns-then-out-lt262144 : goal.returns-then-out-lt262144
returns-then-out-lt262144 c = let a = c.args in let both = no_step a.last a.block.now a.state a.out.now a.table.now c.if-out-lt262144.true in record { value = both.0; out_after = both.1.0; table_after = both.1.1 }

pub shape_of-out-in-Start : goal.shape_of-out-in-Start
shape_of-out-in-Start c = search rules

pub returns-in-Start : goal.returns-in-Start
unfolding table_in
returns-in-Start c = let a = c.args in
    let h = c.if-out-lt262144.false in
    let x = with-room a.last a.block.now a.state a.out.now h Start c.in-Start.is c.start_step.ensures in
    record { value = x.0; out_after = x.1; table_after = table_kept a.last a.block.now a.state a.out.now h Start c.in-Start.is a.table.now refl }

pub shape_of-out-in-Rows : goal.shape_of-out-in-Rows
shape_of-out-in-Rows c = search rules

pub returns-in-Rows : goal.returns-in-Rows
unfolding table_in
returns-in-Rows c = let a = c.args in
    let h = c.if-out-lt262144.false in
    let x = with-room a.last a.block.now a.state a.out.now h Rows c.in-Rows.is c.row_step.ensures.stepped in
    record { value = x.0; out_after = x.1; table_after = table_kept a.last a.block.now a.state a.out.now h Rows c.in-Rows.is a.table.now c.row_step.ensures.table_after }

pub shape_of-out-in-Skipping : goal.shape_of-out-in-Skipping
shape_of-out-in-Skipping c = search rules

pub returns-in-Skipping : goal.returns-in-Skipping
unfolding table_in
returns-in-Skipping c = let a = c.args in
    let h = c.if-out-lt262144.false in
    let x = with-room a.last a.block.now a.state a.out.now h Skipping c.in-Skipping.is c.skip_step.ensures in
    record { value = x.0; out_after = x.1; table_after = table_kept a.last a.block.now a.state a.out.now h Skipping c.in-Skipping.is a.table.now refl }
