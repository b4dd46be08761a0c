use mathlib.Core.Path.{ap, ◌∙◌}
use Rattle.reading_laws.specs.Fields.{three_fields}
use Rattle.reader.specs.Fields.{three_of}
use Rattle.knobstream.specs.Layout.{listed}
use Rattle.knobstream.proofs.Words.{read-answered}
use borrow.Author.Rules.{rules}
use Rattle.knobstream.proofs.knobstream_parse_three_fields.Goals as goal

pub returns : goal.returns
returns c =
    let e = rw (c.list.ensures, c.list-2.ensures, c.list-3.ensures) at c.fields_of-fields.ensures.lists in
    simp (← e)
    (read-answered (three_fields (three_of c.fields_of-fields.result)) c.three_words.ensures.typed (c.put.ensures ∙ ap listed c.three_words.ensures.value))
