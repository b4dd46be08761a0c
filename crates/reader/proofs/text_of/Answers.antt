use Rattle.chunks.proofs.Buffers.{is-fault, is-text}
use Rattle.chunks.proofs.Proper.{faulty-not}
use Rattle.reader.proofs.Lists.{as_is}
use mathlib.Core.Bool.{false}
use mathlib.Core.Path.{sym, ◌∙◌}
use borrow.Author.Rules.{rules}
use Rattle.reader.proofs.text_of.Goals as goal

pub returns-in-Ok : goal.returns-in-Ok
returns-in-Ok c =
    let a = c.args in
    let t = is-text false a.list.bytes.now a.list.table.now a.buf.now c.format_verbatim.ensures.value c.format_verbatim.ensures.buf_after c.in-Ok.is in
    record { upper_bound = t.within; buf_after = as_is a.list.bytes.now a.list.table.now t.front }

pub returns-in-Err : goal.returns-in-Err
returns-in-Err c =
    let a = c.args in
    let f = is-fault false a.list.bytes.now a.list.table.now a.buf.now c.format_verbatim.ensures.value c.format_verbatim.ensures.buf_after c.in-Err.is c.requires.roomy in
    absurd (faulty-not (sym f ∙ c.requires.clean))
