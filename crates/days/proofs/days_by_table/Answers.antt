use Rattle.chars.specs.Pick.{pick}
use Rattle.days.specs.Covered.{covered}
use Rattle.days.proofs.Engines.{table-days}
use Rattle.days.proofs.days_by_table.Goals as goal

pub returns-then-has_season : goal.returns-then-has_season
unfolding covered pick
returns-then-has_season c =
    simp (← c.has_season.ensures, c.if-has_season.true, ← c.seasoned.ensures)

pub returns : goal.returns
unfolding covered pick
returns c =
    simp (← c.has_season.ensures, c.if-has_season.false, table-days c.args.d, ← c.table_days.ensures)
