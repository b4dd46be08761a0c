use mathlib.Core.Path.{ap, ◌∙◌}
use Rattle.reading_laws.specs.Field.{parsed_level_one}
use Rattle.knobstream.specs.Layout.{listed}
use Rattle.knobstream.proofs.Words.{read-answered}
use borrow.Author.Rules.{rules}
use Rattle.knobstream.proofs.knobstream_parse_level_one.Goals as goal

pub returns : goal.returns
returns c =
    let a = c.args in
    read-answered (parsed_level_one a.bytes.now a.table.now) c.level_words.ensures.typed (c.put.ensures ∙ ap listed c.level_words.ensures.value)
