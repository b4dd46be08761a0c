use native.Mathlib.Omega.{arith}
use Rattle.answers.specs.Answer.{end_bytes, bytes_with}
use Rattle.answers.proofs.Digits.{hex-both, hex-room, line-put, length-end, length-one}
use borrow.Author.Rules.{rules}
use Rattle.answers.proofs.put_one.Goals as goal

pub put_hex-i-requires : goal.put_hex-i-requires
put_hex-i-requires c =
    let a = c.args in
    omega (arith, c.requires, length-one a.level a.shape a.marks a.d a.text.now, length-end a.level a.d)

pub put_end-j-requires : goal.put_end-j-requires
put_end-j-requires c =
    let a = c.args in
    let pr = hex-room _ c.put_hex-i.ensures in
    omega (arith, c.requires, length-one a.level a.shape a.marks a.d a.text.now, length-end a.level a.d, pr.0, pr.1)

pub put_hex-k-requires : goal.put_hex-k-requires
put_hex-k-requires c =
    let a = c.args in
    let pr = hex-room _ c.put_hex-i.ensures in
    let qr = hex-room _ c.put_end-j.ensures in
    omega (arith, c.requires, length-one a.level a.shape a.marks a.d a.text.now, length-end a.level a.d, pr.0, pr.1, qr.0, qr.1)

pub end_line-requires : goal.end_line-requires
end_line-requires c =
    let a = c.args in
    let pr = hex-room _ c.put_hex-i.ensures in
    let qr = hex-room _ c.put_end-j.ensures in
    let tr = hex-room _ c.put_hex-k.ensures in
    omega (arith, c.requires, length-one a.level a.shape a.marks a.d a.text.now, length-end a.level a.d, pr.0, pr.1, qr.0, qr.1, tr.0, tr.1)

pub returns : goal.returns
returns c =
    let a = c.args in
    line-put (bytes_with a.shape a.marks (end_bytes a.level a.d) a.text.now)
    (hex-both _ _ c.put_hex-i.ensures (hex-both _ _ c.put_end-j.ensures c.put_hex-k.ensures))
    c.end_line.ensures
