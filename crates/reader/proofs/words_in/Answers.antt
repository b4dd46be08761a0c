use Rattle.chunks.proofs.Buffers.{is-text, is-fault}
use Rattle.reading_laws.proofs.Entries.{parsed-clean, parsed-faulty}
use mathlib.Core.Bool.{true}
use native.Mathlib.Omega.{arith}
use lib.ListN.{take}
use lib.Seq.{length-take-le}
use mathlib.Core.Path.{sym, ap, ◌∙◌}
use Rattle.refusals.specs.declared.FileSpan.{FileSpan}
use Rattle.datefield.specs.Value.{parse_text}
use Rattle.reading_laws.specs.Field.{parsed}
use Rattle.reader.proofs.Said.{carried}
use Rattle.reader.proofs.words_in.Goals as goal

-- behind a text that was written, the buffer's front is it
pub slice_bounds-text_words-end : goal.slice_bounds-text_words-end
slice_bounds-text_words-end c =
    let a = c.args in
    let t = is-text true a.list.bytes.now a.list.table.now a.buf.now c.format_uppercase.ensures.value c.format_uppercase.ensures.buf_after c.in-Ok.is in
    omega (arith, t.within)

pub slice_bounds-text_words-end-in-Ok : goal.slice_bounds-text_words-end-in-Ok
slice_bounds-text_words-end-in-Ok c =
    let a = c.args in
    let t = is-text true a.list.bytes.now a.list.table.now a.buf.now c.format_uppercase.ensures.value c.format_uppercase.ensures.buf_after c.in-Ok.is in
    sym (length-take-le _ c.format_uppercase.new.buf (omega (arith, t.within)))

pub returns-in-Ok : goal.returns-in-Ok
returns-in-Ok c =
    let a = c.args in
    let t = is-text true a.list.bytes.now a.list.table.now a.buf.now c.format_uppercase.ensures.value c.format_uppercase.ensures.buf_after c.in-Ok.is in
    let front = take c.in-Ok.n c.format_uppercase.new.buf in
    let both = carried (parse_text c.span.result front) (parsed a.list.bytes.now a.list.table.now) (ap (λ (z : FileSpan). parse_text z front) c.span.ensures ∙ parsed-clean a.list.bytes.now a.list.table.now t.clean t.front) (c.text_words.ensures.value, c.text_words.ensures.typed) in
    record { value = both.0; typed = both.1 }

pub returns-in-Err : goal.returns-in-Err
returns-in-Err c =
    let a = c.args in
    let both = carried _ (parsed a.list.bytes.now a.list.table.now)
    (parsed-faulty a.list.bytes.now a.list.table.now (is-fault true a.list.bytes.now a.list.table.now a.buf.now c.format_uppercase.ensures.value c.format_uppercase.ensures.buf_after c.in-Err.is c.requires))
    (c.pack.ensures.value, c.pack.ensures.typed) in record { value = both.0; typed = both.1 }
