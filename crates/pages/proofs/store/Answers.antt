use Rattle.pages.proofs.Walk.{starts, row_fits, size_fits, len-fits, at_next, put_next, put-end}
use native.Mathlib.Omega.{arith}
use mathlib.Core.Path.{refl, ◌∙◌}
use Rattle.pages.proofs.store.Goals as goal

pub loop-i-init : goal.loop-i-init
loop-i-init c = (starts c.args.list.bytes.now c.args.list.table.now c.args.counts.now c.requires.0, refl)

pub step-s-requires : goal.step-s-requires
step-s-requires c =
    let a = c.args in
    let l = c.loop-i in
    (row_fits a.list.bytes.now a.list.table.now a.counts.now l.at l.row l.i l.invariant.0 c.loop-i-test.true, size_fits a.list.bytes.now a.list.table.now a.counts.now l.at l.row l.i l.invariant.0 c.loop-i-test.true)

pub overflow_add-at : goal.overflow_add-at
overflow_add-at c =
    let a = c.args in
    let l = c.loop-i in
    omega (arith, len-fits a.list.bytes.now a.list.table.now a.counts.now l.at l.row l.i l.invariant.0 c.loop-i-test.true c.step-s.ensures)

pub overflow_mul-row : goal.overflow_mul-row
overflow_mul-row c =
    let a = c.args in
    let l = c.loop-i in
    omega (arith, row_fits a.list.bytes.now a.list.table.now a.counts.now l.at l.row l.i l.invariant.0 c.loop-i-test.true)

pub overflow_add-row : goal.overflow_add-row
overflow_add-row c =
    let a = c.args in
    let l = c.loop-i in
    omega (arith, row_fits a.list.bytes.now a.list.table.now a.counts.now l.at l.row l.i l.invariant.0 c.loop-i-test.true)

pub loop-i-preserved : goal.loop-i-preserved
loop-i-preserved c =
    let a = c.args in
    let l = c.loop-i in
    (at_next a.list.bytes.now a.list.table.now a.counts.now l.at l.row l.i l.invariant.0 c.loop-i-test.true c.step-s.ensures, put_next a.list.bytes.now a.list.table.now a.counts.now l.at l.row l.i l.invariant.0 c.loop-i-test.true c.step-s.ensures l.out c.put_range.ensures ∙ l.invariant.1)

pub returns : goal.returns
returns c = put-end _ _ _ _ _ _ c.loop-i-test.false ∙ c.loop-i.invariant.1
