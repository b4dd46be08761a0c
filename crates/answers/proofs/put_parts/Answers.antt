use native.Mathlib.Omega.{arith}
use Rattle.answers.proofs.Digits.{hex-both, hex-room, hex-as}
use Rattle.answers.proofs.Coded.{parts_are}
use borrow.Author.Rules.{rules}
use Rattle.answers.proofs.put_parts.Goals as goal

pub put_byte-requires : goal.put_byte-requires
put_byte-requires c =
    let p = hex-room _ c.put_byte-k.ensures in
    omega (arith, c.requires, p.0, p.1)

pub returns : goal.returns
returns c =
    hex-as (parts_are c.args.w c.part_byte-month.ensures c.part_byte-day.ensures) (hex-both _ _ c.put_byte-k.ensures c.put_byte.ensures)
