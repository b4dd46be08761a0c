use native.Mathlib.Omega.{arith}
use Rattle.answers.specs.Coded.{coded_end}
use Rattle.answers.proofs.Digits.{hex-both, hex-room}
use borrow.Author.Rules.{rules}
use Rattle.answers.proofs.put_coded.Goals as goal

pub put_parts-k-requires : goal.put_parts-k-requires
put_parts-k-requires c =
    let p = hex-room _ c.put_quad-i.ensures in
    omega (arith, c.requires, p.0, p.1)

pub put_clock-requires : goal.put_clock-requires
put_clock-requires c =
    let p = hex-room _ c.put_quad-i.ensures in
    let q = hex-room _ c.put_parts-k.ensures in
    omega (arith, c.requires, p.0, p.1, q.0, q.1)

pub returns : goal.returns
unfolding coded_end
returns c = hex-both _ _ c.put_quad-i.ensures (hex-both _ _ c.put_parts-k.ensures c.put_clock.ensures)
