use mathlib.Core.Path.{ap, ◌∙◌}
use Rattle.dates.specs.declared.Date.{Date}
use Rattle.dates.specs.Value.{any_season}
use Rattle.writer.specs.Texts.{panics, date_text}
use Rattle.knobstream.specs.Plain.{parts}
use Rattle.knobstream.specs.Back.{date_of}
use Rattle.knobstream.proofs.Made.{made-measure, same-season, same-panics, same_text}
use borrow.Author.Rules.{rules}
use Rattle.knobstream.proofs.measure_far.Goals as goal

pub returns : goal.returns
returns c =
    let a = c.args in
    let p = parts a.shape a.uncertain a.approximate a.first a.second in
    let e = c.date_of-d.ensures in
    made-measure c.date_of-d.result (date_of p) (ap (λ (d : Date). any_season d.value) e ∙ same-season p) (ap panics e ∙ same-panics p) (ap date_text e ∙ same_text p) c.date_length.ensures.value c.plain_measured.ensures
