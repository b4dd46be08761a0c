use Rattle.chunks.proofs.Buffers.{is-text, is-fault}
use Rattle.pages.proofs.Entries.{piece-clean, piece-faulty}
use mathlib.Core.Bool.{false}
use lib.Seq.{length-take-le}
use mathlib.Core.Path.{sym, ◌∙◌}
use Rattle.std.proofs.lemmas.Result.{err_from_is_err_and}
use Rattle.pages.proofs.piece_in.Goals as goal

pub slice_bounds-range_text-end : goal.slice_bounds-range_text-end
slice_bounds-range_text-end c =
    let a = c.args in
    let t = is-text false a.list.bytes.now a.list.table.now a.buf.now c.format_verbatim.ensures.value c.format_verbatim.ensures.buf_after c.in_ok-n.was in
    t.within

pub slice_bounds-range_text-end-2 : goal.slice_bounds-range_text-end-2
slice_bounds-range_text-end-2 c =
    let a = c.args in
    let t = is-text false a.list.bytes.now a.list.table.now a.buf.now c.format_verbatim.ensures.value c.format_verbatim.ensures.buf_after c.in_ok-n.was in
    sym (length-take-le _ _ t.within)

pub returns : goal.returns
returns c =
    let a = c.args in
    let t = is-text false a.list.bytes.now a.list.table.now a.buf.now c.format_verbatim.ensures.value c.format_verbatim.ensures.buf_after c.in_ok-n.was in
    c.range_text.ensures ∙ rw c.span.ensures (piece-clean a.list.bytes.now a.list.table.now t.clean t.front)

pub returns-in_err-n : goal.returns-in_err-n
returns-in_err-n c =
    let a = c.args in
    let p = err_from_is_err_and c.from_residual.result c.from_residual.ensures.1 in
    rw (p.1, p.2) (piece-faulty a.list.bytes.now a.list.table.now (is-fault false a.list.bytes.now a.list.table.now a.buf.now c.format_verbatim.ensures.value c.format_verbatim.ensures.buf_after c.in_err-n.was c.requires))
