use mathlib.Core.List.{◌++◌}
use native.Mathlib.Omega.{arith}
use mir.Syntax.{w32}
use mir.ValLaws.{to_z-of_z}
use Rattle.writer.specs.Level.{long_sign, behind_text, level_end}
use Rattle.writer.specs.Texts.{year_text}
use Rattle.writer.proofs.Pieces.{added}
use borrow.Author.Rules.{rules}
use Rattle.writer.proofs.level_end_length.Goals as goal

pub returns : goal.returns
unfolding level_end
returns c =
    let d = c.args.d in
    let sign = rw (to_z-of_z w32 c.args.d.year (record { sfits = c.struct_told-1.given.0.1 })) at c.long_sign_length.ensures.0 in
    let digits = rw (to_z-of_z w32 c.args.d.year (record { sfits = c.struct_told-2-1.given.0.1 })) at c.year_length.ensures.0 in
    (added (long_sign d.year ++ year_text d.year) (behind_text d) (added (long_sign d.year) (year_text d.year) sign digits) c.behind_length.ensures.0, omega arith)
