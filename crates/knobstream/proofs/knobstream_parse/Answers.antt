use mathlib.Core.Path.{ap, ◌∙◌}
use Rattle.reading_laws.specs.Field.{parsed}
use Rattle.knobstream.specs.Layout.{listed}
use Rattle.knobstream.proofs.Words.{read-answered}
use borrow.Author.Rules.{rules}
use Rattle.knobstream.proofs.knobstream_parse.Goals as goal

pub returns : goal.returns
returns c =
    let a = c.args in
    read-answered (parsed a.bytes.now a.table.now) c.parse_words.ensures.typed (c.put.ensures ∙ ap listed c.parse_words.ensures.value)
