use Rattle.knobstream.specs.Plain.{written}
use mathlib.Core.Path.{ap, ◌∙◌}
use borrow.Author.Rules.{rules}
use Rattle.knobstream.proofs.knobstream_answer_frame.Goals as goal

pub returns : goal.returns
returns c =
    record { value = c.plain_written.ensures ∙ ap written c.answer.ensures.value; out_after = c.answer.ensures.out_after }
