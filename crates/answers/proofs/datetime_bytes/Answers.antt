use mir.Syntax.{w32}
use mir.ValLaws.{to_z-of_z}
use Rattle.answers.proofs.Digits.{datetime-is}
use borrow.Author.Rules.{rules}
use Rattle.answers.proofs.datetime_bytes.Goals as goal

-- src/lib.rt:117:1
pub returns : goal.returns
returns c =
    let y = rw (to_z-of_z w32 c.args.d.year (record { sfits = c.struct_told-1.given.0.1 })) at c.twos.ensures in
    datetime-is c.args.d y c.word-y.ensures c.month_byte.ensures c.day_byte.ensures c.time_bytes-t.ensures
