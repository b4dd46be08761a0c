use Rattle.chunks.proofs.Standing.{stands-formatted}
use mathlib.Core.Bool.{false}
use Rattle.reading_laws.specs.Fields.{year_of}
use native.Mathlib.Omega.{arith}
use lib.Seq.{length-take-le}
use mathlib.Core.Path.{sym, ◌∙◌}
use borrow.Author.Rules.{rules}
use Rattle.reader.proofs.year_of.Goals as goal

pub returns-then-stands : goal.returns-then-stands
unfolding year_of
returns-then-stands c =
    let a = c.args in
    let s = sym c.stands.ensures ∙ c.if-stands.true in
    c.moved_year.ensures ∙ rw (c.span.ensures, c.get_year.ensures, stands-formatted false a.list.bytes.now a.list.table.now s)

pub slice_bounds-get_year-end-2 : goal.slice_bounds-get_year-end-2
slice_bounds-get_year-end-2 c =
    let t = c.text_of-n in
    sym (length-take-le _ t.new.buf (omega (arith, t.ensures.upper_bound)))

pub returns : goal.returns
unfolding year_of
returns c = c.moved_year-2.ensures ∙ rw (c.span-2.ensures, c.get_year-2.ensures, c.text_of-n.ensures.buf_after)
