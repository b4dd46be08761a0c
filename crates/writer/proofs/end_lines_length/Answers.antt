use Rattle.writer.specs.Texts.{year_text}
use Rattle.writer.specs.Fields.{part_lines, line}
use Rattle.chars.specs.Ascii.{ascii}
use Rattle.writer.proofs.Pieces.{added, end-pieces, line-length}
use lib.ListN.{length}
use native.Mathlib.Omega.{arith}
use mathlib.Core.Path.{sym, ap, ◌∙◌, ◌≡◌}
use mir.Syntax.{w32}
use mir.ValLaws.{to_z-of_z}
use borrow.Author.Rules.{rules}
use Rattle.writer.proofs.end_lines_length.Goals as goal

pub returns : goal.returns
returns c =
    let y = rw (to_z-of_z w32 c.args.d.year (record { sfits = c.struct_told-1.given.0.1 })) at c.year_length.ensures.0 in
    let l : c.line_length-k.result ≡ length (line c.args.end (ascii "year=") (year_text c.args.d.year)) = omega (arith, y, c.line_length-k.ensures.0, line-length c.args.end (ascii "year=") (year_text c.args.d.year)) in
    (added (line c.args.end (ascii "year=") (year_text c.args.d.year)) (part_lines c.args.end c.parts_of-p.result) l c.part_lines_length.ensures.0 ∙ sym (ap length (end-pieces c.args.end c.args.d c.parts_of-p.ensures)), omega arith)
