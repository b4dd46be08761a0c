use Rattle.datefield.proofs.Finding.{first-here, first_on, first-none}
use native.Mathlib.Omega.{arith}
use Rattle.datefield.proofs.find.Goals as goal

pub returns-then-s-i : goal.returns-then-s-i
returns-then-s-i c =
    let e = first-here c.args.b c.args.s.now c.loop-i.i c.loop-i-test.true c.if-s-i.true in
    omega (arith, c.loop-i.invariant, e)

pub loop-i-preserved : goal.loop-i-preserved
loop-i-preserved c =
    let e = first_on c.args.b c.args.s.now c.loop-i.i c.loop-i-test.true c.if-s-i.false in
    omega (arith, c.loop-i.invariant, e)

pub returns : goal.returns
returns c =
    let e = first-none c.args.b c.args.s.now c.loop-i.i c.loop-i-test.false in
    omega (arith, c.loop-i.invariant, e, c.skip-i.ensures.1)
