use Rattle.datefield.specs.Text.{first_of}
use mathlib.Core.Path.{◌≡◌}
use native.Mathlib.Omega.{arith}
use borrow.Author.Rules.{rules}
use Rattle.datefield.proofs.Finding.{first-here, first_on, first-none}
use lib.ListN.{length, drop}
use Prim.Native.Nat.{◌+◌, ◌-◌, ◌≤◌}
use Rattle.verdicts.proofs.find.Goals as goal

pub returns-then-x-b : goal.returns-then-x-b
returns-then-x-b c =
    let a = c.args in
    omega (arith, c.loop-i.invariant, first-here a.b a.s.now c.loop-i.i c.loop-i-test.true c.if-x-b.true)

pub loop-i-preserved : goal.loop-i-preserved
loop-i-preserved c =
    let a = c.args in
    omega (arith, c.loop-i.invariant, first_on a.b a.s.now c.loop-i.i c.loop-i-test.true c.if-x-b.false)

pub returns : goal.returns
returns c =
    let a = c.args in
    omega (arith, c.loop-i.invariant, first-none a.b a.s.now c.loop-i.i c.loop-i-test.false)
