use mathlib.Core.Path.{◌≡◌, sym, ◌∙◌}
use native.Mathlib.Omega.{arith}
use Rattle.chronology.proofs.Columns.{found, passed, missing}
use Rattle.chronology.proofs.find.Goals as goal

pub returns-then-ids-i : goal.returns-then-ids-i
returns-then-ids-i c =
    (found c.args.ids.now c.args.count c.loop-i.i c.args.id c.loop-i-test.true (omega arith) c.if-ids-i.true ∙ sym c.loop-i.invariant, omega arith)

pub loop-i-preserved : goal.loop-i-preserved
loop-i-preserved c =
    c.loop-i.invariant ∙ passed c.args.ids.now c.args.count c.loop-i.i c.args.id c.loop-i-test.true (omega arith) c.if-ids-i.false

pub returns : goal.returns
returns c =
    let e : c.args.count ≡ c.loop-i.i = omega arith in
    (e ∙ missing c.args.ids.now c.args.count c.loop-i.i c.args.id c.loop-i-test.false (omega arith) ∙ sym c.loop-i.invariant, omega arith)
