use Rattle.writer.specs.Texts.{year_text, parts_of}
use Rattle.writer.proofs.Pieces.{end-pieces}
use Rattle.chars.specs.Ascii.{ascii}
use Rattle.chars.specs.Utf8.{first}
use Rattle.writer.specs.Fields.{part_lines, end_lines, line}
use Rattle.puts.proofs.Puts.{room, as-text, both, fits-as, first_fits}
use mir.Syntax.{w32}
use mir.ValLaws.{to_z-of_z}
use borrow.Author.Rules.{rules}
use Rattle.writer.proofs.put_end_lines.Goals as goal

pub put_year_line-k-requires : goal.put_year_line-k-requires
unfolding end_lines
put_year_line-k-requires c =
    rw (to_z-of_z w32 c.args.d.year (record { sfits = c.struct_told-1.given.0.1 })) (first_fits (line c.args.end (ascii "year=") (year_text c.args.d.year)) (part_lines c.args.end (parts_of c.args.d)) c.args.out.now c.args.at c.requires)

pub put_part_lines-requires : goal.put_part_lines-requires
put_part_lines-requires c =
    let first = rw (to_z-of_z w32 c.args.d.year (record { sfits = c.struct_told-1.given.0.1 })) at c.put_year_line-k.ensures in
    room first (part_lines c.args.end c.parts_of-p.result) (fits-as c.args.out.now c.args.at (end-pieces c.args.end c.args.d c.parts_of-p.ensures) c.requires)

pub returns : goal.returns
returns c =
    let first = rw (to_z-of_z w32 c.args.d.year (record { sfits = c.struct_told-1.given.0.1 })) at c.put_year_line-k.ensures in
    as-text (end-pieces c.args.end c.args.d c.parts_of-p.ensures) (both first c.put_part_lines.ensures)
