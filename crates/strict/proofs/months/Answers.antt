use Rattle.strict.specs.Matcher.{months}
use Rattle.strict.proofs.months.Goals as goal

pub returns : goal.returns
unfolding months
returns c =
    simp (← c.plain-start.ensures, ← c.plain-end.ensures)
