use mathlib.Core.List.{◌++◌}
use native.Mathlib.Omega.{arith}
use Rattle.answers.specs.Answer.{end_bytes, bytes_with}
use Rattle.answers.proofs.Digits.{hex-both, hex-room, line-put, length-end, length_two}
use borrow.Author.Rules.{rules}
use Rattle.answers.proofs.put_two.Goals as goal

pub put_hex-h-requires : goal.put_hex-h-requires
put_hex-h-requires c =
    let a = c.args in
    omega (arith, c.requires, length_two a.level a.marks a.a a.b a.text.now, length-end a.level a.a, length-end a.level a.b)

pub put_end-i-requires : goal.put_end-i-requires
put_end-i-requires c =
    let a = c.args in
    let pr = hex-room _ c.put_hex-h.ensures in
    omega (arith, c.requires, length_two a.level a.marks a.a a.b a.text.now, length-end a.level a.a, length-end a.level a.b, pr.0, pr.1)

pub put_end-j-requires : goal.put_end-j-requires
put_end-j-requires c =
    let a = c.args in
    let pr = hex-room _ c.put_hex-h.ensures in
    let qr = hex-room _ c.put_end-i.ensures in
    omega (arith, c.requires, length_two a.level a.marks a.a a.b a.text.now, length-end a.level a.a, length-end a.level a.b, pr.0, pr.1, qr.0, qr.1)

pub put_hex-k-requires : goal.put_hex-k-requires
put_hex-k-requires c =
    let a = c.args in
    let pr = hex-room _ c.put_hex-h.ensures in
    let qr = hex-room _ c.put_end-i.ensures in
    let rr = hex-room _ c.put_end-j.ensures in
    omega (arith, c.requires, length_two a.level a.marks a.a a.b a.text.now, length-end a.level a.a, length-end a.level a.b, pr.0, pr.1, qr.0, qr.1, rr.0, rr.1)

pub end_line-requires : goal.end_line-requires
end_line-requires c =
    let a = c.args in
    let pr = hex-room _ c.put_hex-h.ensures in
    let qr = hex-room _ c.put_end-i.ensures in
    let rr = hex-room _ c.put_end-j.ensures in
    let tr = hex-room _ c.put_hex-k.ensures in
    omega (arith, c.requires, length_two a.level a.marks a.a a.b a.text.now, length-end a.level a.a, length-end a.level a.b, pr.0, pr.1, qr.0, qr.1, rr.0, rr.1, tr.0, tr.1)

pub returns : goal.returns
returns c =
    let a = c.args in
    line-put (bytes_with 3 a.marks (end_bytes a.level a.a ++ end_bytes a.level a.b) a.text.now)
    (hex-both _ _ c.put_hex-h.ensures (hex-both _ _ (hex-both _ _ c.put_end-i.ensures c.put_end-j.ensures) c.put_hex-k.ensures))
    c.end_line.ensures
