use Rattle.pages.proofs.Walk.{starts, row_fits, size_fits, len-fits, at_next, refuses, judged-next, judged-end}
use lib.ListN.{length}
use native.Mathlib.Omega.{arith}
use Rattle.std.proofs.lemmas.Result.{err_from_is_err_and}
use mathlib.Core.Path.{refl, ◌∙◌}
use Rattle.pages.proofs.judge.Goals as goal

pub loop-n-init : goal.loop-n-init
loop-n-init c = (starts c.args.list.bytes.now c.args.list.table.now c.args.counts.now c.requires, refl)

pub step-s-requires : goal.step-s-requires
step-s-requires c =
    let a = c.args in
    let l = c.loop-n in
    (row_fits a.list.bytes.now a.list.table.now a.counts.now l.at l.row l.n-index l.invariant.0 c.loop-n-test.true, size_fits a.list.bytes.now a.list.table.now a.counts.now l.at l.row l.n-index l.invariant.0 c.loop-n-test.true)

pub returns-in_err-s : goal.returns-in_err-s
returns-in_err-s c =
    let a = c.args in
    let l = c.loop-n in
    let p = err_from_is_err_and c.from_residual.result c.from_residual.ensures.1 in
    rw (p.1, p.2) (refuses a.list.bytes.now a.list.table.now a.counts.now l.at l.row l.n-index l.invariant.0 c.loop-n-test.true c.step-s.ensures (length a.counts.now) c.in_err-s.was ∙ l.invariant.1)

pub overflow_add-at : goal.overflow_add-at
overflow_add-at c =
    let a = c.args in
    let l = c.loop-n in
    omega (arith, len-fits a.list.bytes.now a.list.table.now a.counts.now l.at l.row l.n-index l.invariant.0 c.loop-n-test.true c.step-s.ensures)

pub overflow_mul-row : goal.overflow_mul-row
overflow_mul-row c =
    let a = c.args in
    let l = c.loop-n in
    omega (arith, row_fits a.list.bytes.now a.list.table.now a.counts.now l.at l.row l.n-index l.invariant.0 c.loop-n-test.true)

pub overflow_add-row : goal.overflow_add-row
overflow_add-row c =
    let a = c.args in
    let l = c.loop-n in
    omega (arith, row_fits a.list.bytes.now a.list.table.now a.counts.now l.at l.row l.n-index l.invariant.0 c.loop-n-test.true)

pub loop-n-preserved : goal.loop-n-preserved
loop-n-preserved c =
    let a = c.args in
    let l = c.loop-n in
    (at_next a.list.bytes.now a.list.table.now a.counts.now l.at l.row l.n-index l.invariant.0 c.loop-n-test.true c.step-s.ensures, judged-next a.list.bytes.now a.list.table.now a.counts.now l.at l.row l.n-index l.invariant.0 c.loop-n-test.true c.step-s.ensures (length a.counts.now) c.in_ok-s.was ∙ l.invariant.1)

pub returns : goal.returns
returns c = judged-end _ _ _ _ _ c.loop-n-test.false ∙ c.loop-n.invariant.1
