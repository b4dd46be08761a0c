use mathlib.Core.Path.{ap, ◌∙◌}
use lib.ListN.{length}
use Rattle.dates.specs.declared.Date.{Date}
use Rattle.timed.specs.Answers.{timed_answer, timed_afterwards}
use Rattle.knobstream.specs.Plain.{written}
use borrow.Author.Rules.{rules}
use Rattle.knobstream.proofs.times.knobstream_write_timed.Goals as goal

pub returns : goal.returns
returns c =
    let l = c.args.out.now in
    let e = c.timed_date-d.ensures in
    record { value = c.plain_written.ensures ∙ ap written (c.write_timed.ensures.value ∙ ap (λ (d : Date). timed_answer d (length l)) e); out_after = c.write_timed.ensures.out_after ∙ ap (λ (d : Date). timed_afterwards d l) e }
