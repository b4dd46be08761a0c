use Rattle.dates.specs.Clocks.{has_bad_time}
use borrow.Author.Rules.{rules}
use Rattle.dates.proofs.has_bad_time.Goals as goal

pub returns : goal.returns
unfolding has_bad_time
returns c =
    simp (← c.on_day.ensures, ← c.bad_time.ensures)
