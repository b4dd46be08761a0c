use mathlib.Core.Path.{◌∙◌}
use Rattle.reading_laws.specs.Field.{parsed}
use Rattle.codes.specs.Lists.{list_ported}
use Rattle.codes.specs.Spaced.{list_usual}
use Rattle.code_laws.proofs.Spaced.{usual-parsed, usual-typed}
use Rattle.code_laws.proofs.Ported.{ported-parsed, ported-typed}
use Rattle.reader.proofs.Said.{at_once}
use borrow.Author.Rules.{rules}
use Rattle.reader.proofs.parse_words.Goals as goal

pub returns-then-w : goal.returns-then-w
returns-then-w c =
    let a = c.args in
    let l = a.list.bytes.now in
    let t = a.list.table.now in
    let p = at_once (list_usual l t) (parsed l t) c.usual_words-w.ensures c.if-w.true (λ r e. usual-parsed l t e) (λ r e. usual-typed l t e) in
    record { value = c.again.ensures ∙ p.0; typed = p.1 }

pub returns-then-p : goal.returns-then-p
returns-then-p c =
    let a = c.args in
    let l = a.list.bytes.now in
    let t = a.list.table.now in
    let p = at_once (list_ported l t) (parsed l t) c.ported_words-p.ensures c.if-p.true (λ r e. ported-parsed l t e) (λ r e. ported-typed l t e) in
    record { value = c.again-then-p.ensures ∙ p.0; typed = p.1 }

pub returns : goal.returns
returns c = record { value = c.any_words.ensures.value; typed = c.any_words.ensures.typed }
