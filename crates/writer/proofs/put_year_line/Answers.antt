use Rattle.writer.specs.Texts.{year_text}
use Rattle.writer.specs.Fields.{line, prefix}
use Rattle.chars.specs.Ascii.{ascii}
use Rattle.puts.proofs.Puts.{both, first_fits, room}
use mathlib.Core.List.{[], ◌∷◌, ◌++◌}
use mir.Syntax.{w32}
use mir.ValLaws.{to_z-of_z}
use borrow.Author.Rules.{rules}
use Rattle.writer.proofs.put_year_line.Goals as goal

pub put_name-j-requires : goal.put_name-j-requires
unfolding line
put_name-j-requires c =
    first_fits (prefix c.args.end ++ ascii "year=") (year_text c.args.year) c.args.out.now c.args.at (first_fits ((prefix c.args.end ++ ascii "year=") ++ (year_text c.args.year)) (10 ∷ []) c.args.out.now c.args.at c.requires)

pub put_year-k-requires : goal.put_year-k-requires
unfolding line
put_year-k-requires c =
    rw (to_z-of_z w32 c.args.year c.ranges.year) (room c.put_name-j.ensures (year_text c.args.year) (first_fits ((prefix c.args.end ++ ascii "year=") ++ (year_text c.args.year)) (10 ∷ []) c.args.out.now c.args.at c.requires))

pub put_byte-requires : goal.put_byte-requires
unfolding line
put_byte-requires c =
    let y = rw (to_z-of_z w32 c.args.year c.ranges.year) at c.put_year-k.ensures in room (both c.put_name-j.ensures y) (10 ∷ []) c.requires

pub returns : goal.returns
unfolding line
returns c =
    let y = rw (to_z-of_z w32 c.args.year c.ranges.year) at c.put_year-k.ensures in both (both c.put_name-j.ensures y) c.put_byte.ensures
