use Rattle.reading_laws.specs.Fields.{three_fields}
use Rattle.codes.specs.Lists.{list_three}
use Rattle.code_laws.proofs.Three.{three_said, three-typed}
use Rattle.reader.specs.Fields.{three_of}
use Rattle.reader.proofs.Said.{at_once, carried}
use borrow.Author.Rules.{rules}
use Rattle.reader.proofs.three_words.Goals as goal

pub returns-then-w : goal.returns-then-w
returns-then-w c =
    let t = three_of c.args.fields in
    let both = at_once (list_three t) (three_fields t) c.three_at_once-w.ensures c.if-w.true (λ r e. three_said t e) (λ r e. three-typed t e) in record { value = both.0; typed = both.1 }

pub returns : goal.returns
returns c = let both = carried _ _ c.any_fields-read.ensures (c.pack.ensures.value, c.pack.ensures.typed) in record { value = both.0; typed = both.1 }
