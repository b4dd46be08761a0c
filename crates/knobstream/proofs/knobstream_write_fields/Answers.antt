use Rattle.dates.specs.declared.Date.{Date}
use Rattle.dates.specs.Value.{any_season}
use Rattle.knobstream.specs.Plain.{parts}
use Rattle.writer.specs.Texts.{panics}
use mathlib.Core.Path.{ap, ◌∙◌}
use Rattle.writer.specs.Fields.{fields_text}
use Rattle.knobstream.proofs.Made.{made-written, same-season, same-panics, same-fields}
use borrow.Author.Rules.{rules}
use Rattle.knobstream.proofs.knobstream_write_fields.Goals as goal

pub returns : goal.returns
returns c =
    let a = c.args in
    let p = parts a.shape a.uncertain a.approximate a.first a.second in
    let l = a.out.now in
    let e = c.date_of-d.ensures in
    let both = made-written fields_text l (ap (λ (d : Date). any_season d.value) e ∙ same-season p) (ap panics e ∙ same-panics p) (ap fields_text e ∙ same-fields p) (c.write_fields.ensures.value, c.write_fields.ensures.out_after) c.plain_written.ensures in record { value = both.0; out_after = both.1 }
