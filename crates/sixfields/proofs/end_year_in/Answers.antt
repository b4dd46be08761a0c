use mathlib.Core.Path.{sym}
use mathlib.Core.Bool.{false}
use lib.Seq.{length-take-le}
use Rattle.chunks.proofs.Buffers.{is-text, is-fault}
use Rattle.std.proofs.lemmas.Result.{err_from_is_err_and}
use Rattle.sixfields.proofs.Judged.{is-judged, is-faulty}
use Rattle.sixfields.proofs.end_year_in.Goals as goal

-- behind a text that was written, the buffer's front is it
pub slice_bounds-is_blank-end : goal.slice_bounds-is_blank-end
slice_bounds-is_blank-end c =
    let a = c.args in
    let t = is-text false a.year.bytes.now a.year.table.now a.buf.now c.format_verbatim.ensures.value c.format_verbatim.ensures.buf_after c.in_ok-n.was in
    t.within

pub slice_bounds-is_blank-end-2 : goal.slice_bounds-is_blank-end-2
slice_bounds-is_blank-end-2 c =
    let a = c.args in
    let t = is-text false a.year.bytes.now a.year.table.now a.buf.now c.format_verbatim.ensures.value c.format_verbatim.ensures.buf_after c.in_ok-n.was in
    sym (length-take-le _ c.format_verbatim.new.buf t.within)

pub returns : goal.returns
returns c =
    let a = c.args in
    let t = is-text false a.year.bytes.now a.year.table.now a.buf.now c.format_verbatim.ensures.value c.format_verbatim.ensures.buf_after c.in_ok-n.was in
    is-judged a.year.bytes.now a.year.table.now t.clean t.front c.is_blank.ensures

pub returns-in_err-n : goal.returns-in_err-n
returns-in_err-n c =
    let a = c.args in
    let p = err_from_is_err_and c.from_residual.result c.from_residual.ensures.1 in
    rw (p.1, p.2) (is-faulty a.year.bytes.now a.year.table.now (is-fault false a.year.bytes.now a.year.table.now a.buf.now c.format_verbatim.ensures.value c.format_verbatim.ensures.buf_after c.in_err-n.was c.requires))
