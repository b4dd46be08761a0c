use mathlib.Core.Path.{sym, ◌∙◌}
use Rattle.frames.proofs.Parts.{list-formed, list-by, formed-read, unformed-read}
use Rattle.frames.proofs.Said.{carried}
use borrow.Author.Rules.{rules}
use Rattle.frames.proofs.read_one.Goals as goal

pub read_list-requires : goal.read_list-requires
read_list-requires c =
    (c.requires.0, sym c.one_fills.ensures ∙ c.if-one_fills.true, c.requires.1, c.requires.2)

pub returns-then-one_fills : goal.returns-then-one_fills
returns-then-one_fills c =
    let f = c.args.f.now in
    let op = c.args.op in
    let both = carried (list-by f op c.requires.1 ∙ formed-read f c.requires.2 (list-formed f op c.requires.1 ∙ sym c.one_fills.ensures ∙ c.if-one_fills.true)) (c.read_list.ensures.value, c.read_list.ensures.typed) in record { value = both.0; typed = both.1 }

pub returns : goal.returns
returns c =
    let f = c.args.f.now in
    let both = carried (unformed-read f c.requires.2 (list-formed f c.args.op c.requires.1 ∙ sym c.one_fills.ensures ∙ c.if-one_fills.false)) (c.bad_frame.ensures.value, c.bad_frame.ensures.typed) in record { value = both.0; typed = both.1 }
