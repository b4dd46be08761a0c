use Rattle.chunks.proofs.Buffers.{large-room, small-room}
use Rattle.chunks.proofs.Standing.{stands-clean, stands-text}
use Rattle.datefield.specs.Value.{parse_text}
use Rattle.reading_laws.proofs.Entries.{parsed-clean}
use Rattle.reading_laws.specs.Field.{parsed}
use Rattle.refusals.specs.declared.FileSpan.{FileSpan}
use Rattle.reader.proofs.Said.{carried}
use mathlib.Core.Bool.{true}
use mathlib.Core.Path.{sym, ap, ◌∙◌}
use borrow.Author.Rules.{rules}
use Rattle.reader.proofs.any_words.Goals as goal

pub returns-then-stands : goal.returns-then-stands
returns-then-stands c =
    let b = c.args.list.bytes.now in
    let t = c.args.list.table.now in
    let s = sym c.stands.ensures ∙ c.if-stands.true in
    let both = carried (parse_text c.span.result b) (parsed b t)
    (ap (λ (z : FileSpan). parse_text z b) c.span.ensures ∙ parsed-clean b t (stands-clean true b t s) (sym (stands-text true b t s)))
    (c.text_words.ensures.value, c.text_words.ensures.typed) in record { value = both.0; typed = both.1 }

pub words_in-requires : goal.words_in-requires
words_in-requires c = let a = c.args in small-room a.list.bytes.now a.list.table.now c.if-list-le56.true c.if-list-le16.true

pub words_in-requires-2 : goal.words_in-requires-2
words_in-requires-2 c = let a = c.args in large-room a.list.bytes.now a.list.table.now
