use native.Mathlib.Omega.{arith}
use mir.ValLaws.{to_z-of_z}
use mir.Syntax.{w32}
use borrow.Author.Rules.{rules}
use Rattle.codes.proofs.datetime_word.Goals as goal

pub returns : goal.returns
returns c =
    let y = c.struct_told-1.given.0.1 in
    let m = c.month_number in
    let d = c.day_number in
    let e = rw (to_z-of_z w32 c.args.d.year (record { sfits = y })) at c.twos.ensures in
    record { value = rw (e, c.four_bytes.ensures.0, c.has_month.ensures, m.ensures, c.has_day.ensures, d.ensures); year_bound = (omega (arith, y), (omega (arith, m.type_inv, m.ensures), omega (arith, d.type_inv, d.ensures))) }
