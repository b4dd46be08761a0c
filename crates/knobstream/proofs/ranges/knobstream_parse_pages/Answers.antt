use mathlib.Core.Path.{ap, ◌∙◌}
use Rattle.knobstream.specs.Ranges.{page_words}
use borrow.Author.Rules.{rules}
use Rattle.knobstream.proofs.ranges.knobstream_parse_pages.Goals as goal

pub returns : goal.returns
returns c =
    record { answer_after = c.put_answer.ensures ∙ ap page_words c.parse_pages.ensures.value; out_after = c.parse_pages.ensures.out_after }
