use mathlib.Core.Path.{ap, ◌∙◌}
use Rattle.days.specs.Covered.{covered}
use Rattle.knobstream.specs.Moments.{plain_days}
use borrow.Author.Rules.{rules}
use Rattle.knobstream.proofs.moments.knobstream_days.Goals as goal

pub returns : goal.returns
returns c =
    c.plain_days.ensures ∙ ap plain_days (c.days_by_formula.ensures ∙ ap covered c.datetime_of-x.ensures)
