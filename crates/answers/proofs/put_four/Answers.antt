use native.Mathlib.Omega.{arith}
use Rattle.answers.proofs.Digits.{hex-both, hex-room}
use borrow.Author.Rules.{rules}
use Rattle.answers.proofs.put_four.Goals as goal

pub put_three-requires : goal.put_three-requires
put_three-requires c =
    let p = hex-room _ c.put_byte-i.ensures in
    omega (arith, c.requires, p.0, p.1)

pub returns : goal.returns
returns c = hex-both _ _ c.put_byte-i.ensures c.put_three.ensures
