use native.Mathlib.Omega.{arith}
use Rattle.answers.proofs.Digits.{hex-both, hex-room, line-put}
use Rattle.answers.proofs.Coded.{length-coded}
use borrow.Author.Rules.{rules}
use Rattle.answers.proofs.put_two_coded.Goals as goal

pub put_coded-i-requires : goal.put_coded-i-requires
put_coded-i-requires c =
    let p = hex-room _ c.put_head-h.ensures in
    omega (arith, c.requires, p.0, p.1)

pub put_coded-j-requires : goal.put_coded-j-requires
put_coded-j-requires c =
    let p = hex-room _ c.put_head-h.ensures in
    let q = hex-room _ c.put_coded-i.ensures in
    omega (arith, c.requires, p.0, p.1, q.0, q.1, length-coded c.args.w.first c.args.w.first_time)

pub put_hex-k-requires : goal.put_hex-k-requires
put_hex-k-requires c =
    let p = hex-room _ c.put_head-h.ensures in
    let q = hex-room _ c.put_coded-i.ensures in
    let t = hex-room _ c.put_coded-j.ensures in
    omega (arith, c.requires, p.0, p.1, q.0, q.1, t.0, t.1, length-coded c.args.w.first c.args.w.first_time, length-coded c.args.w.second c.args.w.second_time)

pub end_line-requires : goal.end_line-requires
end_line-requires c =
    let p = hex-room _ c.put_head-h.ensures in
    let q = hex-room _ c.put_coded-i.ensures in
    let t = hex-room _ c.put_coded-j.ensures in
    let u = hex-room _ c.put_hex-k.ensures in
    omega (arith, c.requires, p.0, p.1, q.0, q.1, t.0, t.1, u.0, u.1, length-coded c.args.w.first c.args.w.first_time, length-coded c.args.w.second c.args.w.second_time)

pub returns : goal.returns
returns c =
    line-put _
    (hex-both _ _ c.put_head-h.ensures (hex-both _ _ (hex-both _ _ c.put_coded-i.ensures c.put_coded-j.ensures) c.put_hex-k.ensures))
    c.end_line.ensures
