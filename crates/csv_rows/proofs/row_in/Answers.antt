use mathlib.Core.Path.{sym}
use lib.Seq.{length-take-le}
use Rattle.csv_rows.proofs.Replies.{answer-cut, table-cut, answer-all, table-all}
use borrow.Author.Rules.{rules}
use native.Mathlib.Omega.{arith}
use Rattle.csv_rows.proofs.row_in.Goals as goal

pub slice_bounds-answer_in-end : goal.slice_bounds-answer_in-end
slice_bounds-answer_in-end c = sym (length-take-le 65536 c.args.s.now (omega arith))

pub answer_in-requires : goal.answer_in-requires
answer_in-requires c = (c.requires, omega (arith, length-take-le 65536 c.args.s.now (omega arith)))

pub returns-then-s-gt65536 : goal.returns-then-s-gt65536
returns-then-s-gt65536 c =
    let a = c.args in
    record { value = answer-cut a.sep a.last a.s.now c.if-s-gt65536.true c.answer_in.ensures.value; table_after = table-cut a.sep a.last a.s.now c.if-s-gt65536.true a.table.now c.answer_in.ensures.table_after }

pub returns : goal.returns
returns c =
    let a = c.args in
    record { value = answer-all a.sep a.last a.s.now c.if-s-gt65536.false c.answer_in-2.ensures.value; table_after = table-all a.sep a.last a.s.now c.if-s-gt65536.false a.table.now c.answer_in-2.ensures.table_after }
