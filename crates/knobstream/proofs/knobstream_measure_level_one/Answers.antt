use mathlib.Core.Path.{ap, ◌∙◌}
use Rattle.writer.specs.Level.{level_panics, level_text}
use Rattle.knobstream.specs.Plain.{parts}
use Rattle.knobstream.specs.Back.{date_of}
use Rattle.knobstream.proofs.Made.{level-measure, same-level-panics, same-level-text}
use borrow.Author.Rules.{rules}
use Rattle.knobstream.proofs.knobstream_measure_level_one.Goals as goal

pub returns : goal.returns
returns c =
    let a = c.args in
    let p = parts a.shape a.uncertain a.approximate a.first a.second in
    let e = c.date_of-d.ensures in
    level-measure c.date_of-d.result (date_of p) (ap level_panics e ∙ same-level-panics p) (ap level_text e ∙ same-level-text p) c.level_length.ensures.value c.plain_measured.ensures
