use native.Mathlib.Omega.{arith}
use Rattle.answers.proofs.Digits.{hex-both, hex-room}
use borrow.Author.Rules.{rules}
use Rattle.answers.proofs.put_three.Goals as goal

pub put_byte-j-requires : goal.put_byte-j-requires
put_byte-j-requires c =
    let p = hex-room _ c.put_byte-i.ensures in
    omega (arith, c.requires, p.0, p.1)

pub put_byte-requires : goal.put_byte-requires
put_byte-requires c =
    let p = hex-room _ c.put_byte-i.ensures in
    let q = hex-room _ c.put_byte-j.ensures in
    omega (arith, c.requires, p.0, p.1, q.0, q.1)

pub returns : goal.returns
returns c = hex-both _ _ c.put_byte-i.ensures (hex-both _ _ c.put_byte-j.ensures c.put_byte.ensures)
