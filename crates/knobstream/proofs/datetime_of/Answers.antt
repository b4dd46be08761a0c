use mir.ValLaws.{to_z-of_z}
use mir.Syntax.{w32}
use Rattle.knobstream.specs.Back.{datetime_of}
use borrow.Author.Rules.{rules}
use Rattle.knobstream.proofs.datetime_of.Goals as goal

pub returns : goal.returns
unfolding datetime_of
returns c =
    let y = to_z-of_z w32 c.args.p.year (record { sfits = c.struct_told-1.given.0.1 }) in
    rw (y, c.month_of-month.ensures, c.day_of-day.ensures, c.time_of-time.ensures, c.season_of-season.ensures)
