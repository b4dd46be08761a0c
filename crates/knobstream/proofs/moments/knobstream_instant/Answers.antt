use mathlib.Core.Path.{ap, ◌∙◌}
use Rattle.instants.specs.Instants.{instant_of}
use Rattle.knobstream.specs.Moments.{plain_instant}
use borrow.Author.Rules.{rules}
use Rattle.knobstream.proofs.moments.knobstream_instant.Goals as goal

pub returns : goal.returns
returns c =
    c.plain_instant.ensures ∙ ap plain_instant (c.instant_of.ensures ∙ ap instant_of c.datetime_of-x.ensures)
