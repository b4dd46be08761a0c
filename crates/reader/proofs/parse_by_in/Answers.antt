use Rattle.chunks.proofs.Buffers.{is-text, is-fault}
use Rattle.reading_laws.proofs.Entries.{exact-clean, exact-faulty}
use mathlib.Core.Bool.{false}
use native.Mathlib.Omega.{arith}
use lib.Seq.{length-take-le}
use mathlib.Core.Path.{sym, ◌∙◌}
use Rattle.std.proofs.lemmas.Result.{err_from_is_err_and}
use Rattle.reader.proofs.parse_by_in.Goals as goal

-- behind a text that was written, the buffer's front is it
pub slice_bounds-match_by-end : goal.slice_bounds-match_by-end
slice_bounds-match_by-end c =
    let a = c.args in
    let t = is-text false a.list.bytes.now a.list.table.now a.buf.now c.format_verbatim.ensures.value c.format_verbatim.ensures.buf_after c.in_ok-n.was in
    omega (arith, t.within)

pub slice_bounds-match_by-end-2 : goal.slice_bounds-match_by-end-2
slice_bounds-match_by-end-2 c =
    let a = c.args in
    let t = is-text false a.list.bytes.now a.list.table.now a.buf.now c.format_verbatim.ensures.value c.format_verbatim.ensures.buf_after c.in_ok-n.was in
    sym (length-take-le _ c.format_verbatim.new.buf (omega (arith, t.within)))

pub returns : goal.returns
returns c =
    let a = c.args in
    let t = is-text false a.list.bytes.now a.list.table.now a.buf.now c.format_verbatim.ensures.value c.format_verbatim.ensures.buf_after c.in_ok-n.was in
    c.match_by.ensures ∙ exact-clean a.list.bytes.now a.list.table.now a.level t.clean t.front

pub returns-in_err-n : goal.returns-in_err-n
returns-in_err-n c =
    let a = c.args in
    let p = err_from_is_err_and c.from_residual.result c.from_residual.ensures.1 in
    rw (p.1, p.2) (exact-faulty a.list.bytes.now a.list.table.now a.level (is-fault false a.list.bytes.now a.list.table.now a.buf.now c.format_verbatim.ensures.value c.format_verbatim.ensures.buf_after c.in_err-n.was c.requires))
