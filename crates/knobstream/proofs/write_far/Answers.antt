use Rattle.dates.specs.declared.Date.{Date}
use Rattle.dates.specs.Value.{any_season}
use Rattle.knobstream.specs.Plain.{parts}
use Rattle.writer.specs.Texts.{panics, date_text}
use mathlib.Core.Path.{ap, ◌∙◌}
use Rattle.knobstream.proofs.Made.{made-written, same-season, same-panics, same_text}
use borrow.Author.Rules.{rules}
use Rattle.knobstream.proofs.write_far.Goals as goal

pub returns : goal.returns
returns c =
    let a = c.args in
    let p = parts a.shape a.uncertain a.approximate a.first a.second in
    let l = a.out.now in
    let e = c.date_of-d.ensures in
    let both = made-written date_text l (ap (λ (d : Date). any_season d.value) e ∙ same-season p) (ap panics e ∙ same-panics p) (ap date_text e ∙ same_text p) (c.write_date.ensures.value, c.write_date.ensures.out_after) c.plain_written.ensures in record { value = both.0; out_after = both.1 }
