use mathlib.Core.Path.{ap, ◌∙◌}
use Rattle.timed.specs.Answers.{timed_measured}
use Rattle.knobstream.specs.Plain.{measure}
use borrow.Author.Rules.{rules}
use Rattle.knobstream.proofs.times.knobstream_measure_timed.Goals as goal

pub returns : goal.returns
returns c =
    c.plain_measured.ensures ∙ ap measure (c.timed_length.ensures.value ∙ ap timed_measured c.timed_date-d.ensures)
