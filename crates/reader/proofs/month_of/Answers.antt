use Rattle.chunks.proofs.Standing.{stands-formatted}
use mathlib.Core.Bool.{false}
use native.Mathlib.Omega.{arith}
use lib.Seq.{length-take-le}
use mathlib.Core.Path.{sym, ◌∙◌}
use borrow.Author.Rules.{rules}
use Rattle.reader.proofs.month_of.Goals as goal

pub returns-then-stands : goal.returns-then-stands
returns-then-stands c =
    let a = c.args in
    let s = sym c.stands.ensures ∙ c.if-stands.true in
    c.month_field.ensures ∙ rw (stands-formatted false a.list.bytes.now a.list.table.now s)

pub slice_bounds-month_field-end-2 : goal.slice_bounds-month_field-end-2
slice_bounds-month_field-end-2 c =
    let t = c.text_of-n in
    sym (length-take-le _ t.new.buf (omega (arith, t.ensures.upper_bound)))

pub returns : goal.returns
returns c = c.month_field-2.ensures ∙ rw c.text_of-n.ensures.buf_after
