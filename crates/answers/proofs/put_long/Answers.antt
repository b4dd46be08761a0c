use native.Mathlib.Omega.{arith}
use Rattle.answers.proofs.Digits.{hex-both, hex-room}
use borrow.Author.Rules.{rules}
use Rattle.answers.proofs.put_long.Goals as goal

pub put_quad-requires : goal.put_quad-requires
put_quad-requires c =
    let p = hex-room _ c.put_quad-k.ensures in
    omega (arith, c.requires, p.0, p.1)

pub returns : goal.returns
returns c = hex-both _ _ c.put_quad-k.ensures c.put_quad.ensures
