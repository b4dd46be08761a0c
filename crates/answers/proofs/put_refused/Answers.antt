use native.Mathlib.Omega.{arith}
use Rattle.answers.proofs.Digits.{hex-both, hex-room, line-put}
use borrow.Author.Rules.{rules}
use Rattle.answers.proofs.put_refused.Goals as goal

pub put_long-j-requires : goal.put_long-j-requires
put_long-j-requires c =
    let p = hex-room _ c.put_byte-i.ensures in
    omega (arith, c.requires, p.0, p.1)

pub put_long-k-requires : goal.put_long-k-requires
put_long-k-requires c =
    let p = hex-room _ c.put_byte-i.ensures in
    let q = hex-room _ c.put_long-j.ensures in
    omega (arith, c.requires, p.0, p.1, q.0, q.1)

pub end_line-requires : goal.end_line-requires
end_line-requires c =
    let p = hex-room _ c.put_byte-i.ensures in
    let q = hex-room _ c.put_long-j.ensures in
    let t = hex-room _ c.put_long-k.ensures in
    omega (arith, c.requires, p.0, p.1, q.0, q.1, t.0, t.1)

pub returns : goal.returns
returns c = line-put _
    (hex-both _ _ c.put_byte-i.ensures (hex-both _ _ c.put_long-j.ensures c.put_long-k.ensures))
    c.end_line.ensures
