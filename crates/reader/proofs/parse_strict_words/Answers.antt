use mathlib.Core.Path.{◌∙◌}
use Rattle.reading_laws.specs.Field.{parsed_strict}
use Rattle.codes.specs.Lists.{list_written}
use Rattle.code_laws.proofs.Written.{written-strict, list-typed}
use Rattle.reader.proofs.Said.{at_once}
use borrow.Author.Rules.{rules}
use Rattle.reader.proofs.parse_strict_words.Goals as goal

pub returns-then-w : goal.returns-then-w
returns-then-w c =
    let a = c.args in
    let l = a.list.bytes.now in
    let t = a.list.table.now in
    let p = at_once (list_written l t) (parsed_strict l t) c.written_words-w.ensures c.if-w.true (λ r e. written-strict l t e) (λ r e. list-typed l t e) in
    record { value = c.again.ensures ∙ p.0; typed = p.1 }

pub returns : goal.returns
returns c = record { value = c.any_strict.ensures.value; typed = c.any_strict.ensures.typed }
