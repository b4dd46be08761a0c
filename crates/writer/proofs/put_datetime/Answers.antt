use Rattle.chars.specs.Utf8.{first}
use Rattle.writer.specs.Texts.{parts_text, datetime_text, parts_of, year_text}
use Rattle.puts.proofs.Puts.{front-as, first_fits, as-text, both, front, room}
use Rattle.writer.proofs.Pieces.{datetime-pieces}
use mir.Syntax.{w32}
use mir.ValLaws.{to_z-of_z}
use borrow.Author.Rules.{rules}
use Rattle.writer.proofs.put_datetime.Goals as goal

pub put_year-k-requires : goal.put_year-k-requires
unfolding datetime_text
put_year-k-requires c =
    rw (to_z-of_z w32 c.args.d.year (record { sfits = c.struct_told-1.given.0.1 })) (first_fits (year_text c.args.d.year) (parts_text (parts_of c.args.d)) c.args.out.now 0 (front (datetime_text c.args.d) c.args.out.now c.requires))

pub put_parts-requires : goal.put_parts-requires
put_parts-requires c =
    let first = rw (to_z-of_z w32 c.args.d.year (record { sfits = c.struct_told-1.given.0.1 })) at c.put_year-k.ensures in
    room first (parts_text c.parts_of-p.result) (front-as c.args.out.now (datetime-pieces c.args.d c.parts_of-p.ensures) c.requires)

pub returns : goal.returns
returns c =
    let first = rw (to_z-of_z w32 c.args.d.year (record { sfits = c.struct_told-1.given.0.1 })) at c.put_year-k.ensures in
    as-text (datetime-pieces c.args.d c.parts_of-p.ensures) (both first c.put_parts.ensures)
