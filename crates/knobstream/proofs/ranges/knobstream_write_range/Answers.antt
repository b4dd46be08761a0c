use mathlib.Core.Path.{ap, ◌∙◌}
use Rattle.knobstream.specs.Plain.{written}
use borrow.Author.Rules.{rules}
use Rattle.knobstream.proofs.ranges.knobstream_write_range.Goals as goal

pub returns : goal.returns
returns c =
    record { value = c.plain_written.ensures ∙ ap written c.write_range.ensures.value; out_after = c.write_range.ensures.out_after }
