use native.Mathlib.Omega.{arith}
use Rattle.answers.proofs.Digits.{hex-both, hex-room, hex-as}
use Rattle.answers.proofs.Coded.{no_clock}
use borrow.Author.Rules.{rules}
use Rattle.answers.proofs.put_clock.Goals as goal

pub put_three-requires : goal.put_three-requires
put_three-requires c =
    let p = hex-room _ c.put_four-k.ensures in
    omega (arith, c.requires, p.0, p.1)

pub returns-then-t-eq0 : goal.returns-then-t-eq0
returns-then-t-eq0 c = hex-as (no_clock c.if-t-eq0.true) (hex-both _ _ c.put_four-k.ensures c.put_three.ensures)

pub put_three-requires-2 : goal.put_three-requires-2
put_three-requires-2 c =
    let p = hex-room _ c.put_four-k-2.ensures in
    omega (arith, c.requires, p.0, p.1)

pub returns : goal.returns
returns c = hex-both _ _ c.put_four-k-2.ensures c.put_three-2.ensures
