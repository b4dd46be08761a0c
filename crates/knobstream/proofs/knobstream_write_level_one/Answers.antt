use Rattle.knobstream.specs.Plain.{parts}
use Rattle.knobstream.specs.Back.{date_of}
use Rattle.writer.specs.Level.{level_panics, level_text}
use mathlib.Core.Path.{ap, ◌∙◌}
use Rattle.knobstream.proofs.Made.{level-written, same-level-panics, same-level-text}
use borrow.Author.Rules.{rules}
use Rattle.knobstream.proofs.knobstream_write_level_one.Goals as goal

pub returns : goal.returns
returns c =
    let a = c.args in
    let p = parts a.shape a.uncertain a.approximate a.first a.second in
    let l = a.out.now in
    let e = c.date_of-d.ensures in
    let both = level-written c.date_of-d.result (date_of p) l (ap level_panics e ∙ same-level-panics p) (ap level_text e ∙ same-level-text p) (c.write_level.ensures.value, c.write_level.ensures.out_after) c.plain_written.ensures in record { value = both.0; out_after = both.1 }
