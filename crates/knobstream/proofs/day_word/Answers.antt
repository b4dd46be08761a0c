use mir.Syntax.{w32}
use mir.ValLaws.{to_z-of_z}
use native.Mathlib.Omega.{arith}
use borrow.Author.Rules.{rules}
use Rattle.knobstream.proofs.day_word.Goals as goal

pub returns : goal.returns
returns c =
    let g = c.struct_told-1.given in
    let y = g.0.1 in
    let e = rw (to_z-of_z w32 c.args.p.year (record { sfits = y })) at c.twos.ensures in
    record { value = rw (e, c.four_bytes.ensures.0); datetime_fits = record { year_fits = y; bytes_fit = omega (arith, g) } }
