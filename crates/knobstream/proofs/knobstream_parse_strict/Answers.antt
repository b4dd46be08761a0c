use mathlib.Core.Path.{ap, ◌∙◌}
use Rattle.reading_laws.specs.Field.{parsed_strict}
use Rattle.knobstream.specs.Layout.{listed}
use Rattle.knobstream.proofs.Words.{read-answered}
use borrow.Author.Rules.{rules}
use Rattle.knobstream.proofs.knobstream_parse_strict.Goals as goal

pub returns : goal.returns
returns c =
    let a = c.args in
    read-answered (parsed_strict a.bytes.now a.table.now) c.parse_strict_words.ensures.typed (c.put.ensures ∙ ap listed c.parse_strict_words.ensures.value)
