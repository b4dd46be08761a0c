use mir.ValLaws.{to_z-of_z}
use mir.Syntax.{w32}
use Rattle.codes.specs.Unpacked.{datetime_in}
use borrow.Author.Rules.{rules}
use Rattle.codes.proofs.datetime_back.Goals as goal

pub returns : goal.returns
unfolding datetime_in
returns c =
    let y = to_z-of_z w32 c.from_twos.result (record { sfits = c.from_twos.ensures.1 }) in
    rw (y, c.from_twos.ensures.0, c.month_back-month.ensures, c.low_byte.ensures, c.low_byte-2.ensures, c.day_back-day.ensures, c.low_byte-3.ensures, c.low_byte-4.ensures, c.time_back-time.ensures, c.season_of-season.ensures, c.low_byte-5.ensures)
