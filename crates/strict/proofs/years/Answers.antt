use Rattle.strict.specs.Matcher.{years}
use Rattle.strict.proofs.years.Goals as goal

pub returns : goal.returns
unfolding years
returns c =
    simp (← c.plain-start.ensures, ← c.plain-end.ensures)
