use mathlib.Core.List.{◌++◌}
use mir.Syntax.{w32}
use mir.ValLaws.{to_z-of_z}
use Rattle.writer.specs.Level.{long_sign, behind_text, level_end}
use Rattle.writer.specs.Texts.{year_text}
use Rattle.puts.proofs.Puts.{first_fits, room, both}
use borrow.Author.Rules.{rules}
use Rattle.writer.proofs.put_level_end.Goals as goal

pub put_long_sign-j-requires : goal.put_long_sign-j-requires
unfolding level_end
put_long_sign-j-requires c =
    let d = c.args.d in
    rw (to_z-of_z w32 c.args.d.year (record { sfits = c.struct_told-1.given.0.1 })) (first_fits (long_sign d.year) (year_text d.year) c.args.out.now c.args.at (first_fits (long_sign d.year ++ year_text d.year) (behind_text d) c.args.out.now c.args.at c.requires))

pub put_year-k-requires : goal.put_year-k-requires
unfolding level_end
put_year-k-requires c =
    let d = c.args.d in
    let sign = rw (to_z-of_z w32 c.args.d.year (record { sfits = c.struct_told-1.given.0.1 })) at c.put_long_sign-j.ensures in
    rw (to_z-of_z w32 c.args.d.year (record { sfits = c.struct_told-2-1.given.0.1 })) (room sign (year_text d.year) (first_fits (long_sign d.year ++ year_text d.year) (behind_text d) c.args.out.now c.args.at c.requires))

pub put_behind-requires : goal.put_behind-requires
unfolding level_end
put_behind-requires c =
    let sign = rw (to_z-of_z w32 c.args.d.year (record { sfits = c.struct_told-1.given.0.1 })) at c.put_long_sign-j.ensures in
    let digits = rw (to_z-of_z w32 c.args.d.year (record { sfits = c.struct_told-2-1.given.0.1 })) at c.put_year-k.ensures in
    room (both sign digits) (behind_text c.args.d) c.requires

pub returns : goal.returns
unfolding level_end
returns c =
    let sign = rw (to_z-of_z w32 c.args.d.year (record { sfits = c.struct_told-1.given.0.1 })) at c.put_long_sign-j.ensures in
    let digits = rw (to_z-of_z w32 c.args.d.year (record { sfits = c.struct_told-2-1.given.0.1 })) at c.put_year-k.ensures in
    both (both sign digits) c.put_behind.ensures
