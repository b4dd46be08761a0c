use mathlib.Core.Path.{ap, ◌∙◌}
use Rattle.knobstream.specs.Layout.{listed}
use Rattle.knobstream.proofs.Words.{read-answered}
use borrow.Author.Rules.{rules}
use Rattle.knobstream.proofs.six.read_into.Goals as goal

pub returns : goal.returns
returns c =
    simp (← c.parse_six_fields-read.ensures)
    (read-answered c.parse_six_fields-read.result c.pack.ensures.typed (c.put.ensures ∙ ap listed c.pack.ensures.value))
