use Rattle.writer.specs.Texts.{parts_text, year_text}
use Rattle.writer.proofs.Pieces.{added, datetime-pieces}
use lib.ListN.{length}
use native.Mathlib.Omega.{arith}
use mathlib.Core.Path.{sym, ap, ◌∙◌}
use mir.Syntax.{w32}
use mir.ValLaws.{to_z-of_z}
use borrow.Author.Rules.{rules}
use Rattle.writer.proofs.datetime_length.Goals as goal

pub returns : goal.returns
returns c =
    let y = rw (to_z-of_z w32 c.args.d.year (record { sfits = c.struct_told-1.given.0.1 })) at c.year_length.ensures.0 in
    (added (year_text c.args.d.year) (parts_text c.parts_of-p.result) y c.parts_length.ensures.0 ∙ sym (ap length (datetime-pieces c.args.d c.parts_of-p.ensures)), omega arith)
