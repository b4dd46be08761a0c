use Rattle.chars.specs.Utf8.{first}
use Rattle.puts.specs.Numbers.{decimal}
use Rattle.writer.proofs.Pieces.{year-digits}
use Rattle.writer.specs.Texts.{year_text, minus}
use Rattle.puts.proofs.Puts.{room, as-text, both, fits-as, first_fits}
use native.Mathlib.Omega.{arith}
use lib.IntN.{nat_abs}
use mir.Syntax.{w32}
use mir.ValLaws.{to_z-of_z}
use borrow.Author.Rules.{rules}
use Rattle.writer.proofs.put_year.Goals as goal

pub put_minus-k-requires : goal.put_minus-k-requires
unfolding year_text
put_minus-k-requires c =
    rw (to_z-of_z w32 c.args.year c.ranges.year) (first_fits (minus c.args.year) (decimal 4 (nat_abs c.args.year)) c.args.out.now c.args.at c.requires)

pub put_decimal-requires : goal.put_decimal-requires
put_decimal-requires c =
    let first = rw (to_z-of_z w32 c.args.year c.ranges.year) at c.put_minus-k.ensures in
    (omega arith, room first (decimal 4 c.magnitude-n.result) (fits-as c.args.out.now c.args.at (year-digits c.args.year c.ranges.year c.magnitude-n.ensures) c.requires))

pub returns : goal.returns
returns c =
    let first = rw (to_z-of_z w32 c.args.year c.ranges.year) at c.put_minus-k.ensures in
    as-text (year-digits c.args.year c.ranges.year c.magnitude-n.ensures) (both first c.put_decimal.ensures)
