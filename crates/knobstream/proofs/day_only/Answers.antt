use Rattle.knobstream.specs.Back.{day_only}
use mir.ValLaws.{to_z-of_z}
use mir.Syntax.{w32}
use borrow.Author.Rules.{rules}
use Rattle.knobstream.proofs.day_only.Goals as goal

pub returns : goal.returns
unfolding day_only
returns c =
    let y = to_z-of_z w32 c.args.p.year (record { sfits = c.struct_told-1.given.0.1 }) in
    rw (y, c.month_of.ensures, c.day_of.ensures, c.season_of.ensures)
