use Prim.Native.Nat.{◌+◌}
use mathlib.Core.Path.{sym, ◌∙◌}
use native.Mathlib.Omega.{arith}
use lib.Seq.{length-take-le}
use Rattle.frames.proofs.Parts.{are-there, month-starts, day-starts, row-taken, there-read}
use Rattle.frames.proofs.Said.{carried}
use Rattle.reader.proofs.Flags.{same-fields}
use borrow.Author.Rules.{rules}
use Rattle.frames.proofs.three_there.Goals as goal

pub overflow_add-month_at : goal.overflow_add-month_at
overflow_add-month_at c =
    let t = are-there c.requires in
    omega (arith, c.requires.small, t.year_chunk.long, t.month_before, t.day_before)

pub row_at-m-requires : goal.row_at-m-requires
row_at-m-requires c =
    let t = are-there c.requires in
    omega (arith, c.requires.small, t.year_chunk.long, t.month_before, t.day_before)

pub overflow_add-day_at : goal.overflow_add-day_at
overflow_add-day_at c =
    let t = are-there c.requires in
    omega (arith, c.requires.small, t.year_chunk.long, t.month_before, t.day_before)

pub row_at-d-requires : goal.row_at-d-requires
row_at-d-requires c =
    let t = are-there c.requires in
    omega (arith, c.requires.small, t.year_chunk.long, t.month_before, t.day_before)

pub text_start-i-requires : goal.text_start-i-requires
text_start-i-requires c =
    let t = are-there c.requires in
    omega (arith, c.requires.small, t.year_chunk.long, t.month_before, t.day_before)

pub text_start-j-requires : goal.text_start-j-requires
text_start-j-requires c =
    let t = are-there c.requires in
    omega (arith, c.requires.small, t.year_chunk.long, t.month_before, t.day_before)

pub slice_bounds-year-count : goal.slice_bounds-year-count
slice_bounds-year-count c =
    let t = are-there c.requires in
    omega (arith, c.requires.small, t.year_chunk.long, t.month_before, t.day_before)

pub slice_bounds-year-start : goal.slice_bounds-year-start
slice_bounds-year-start c =
    let t = are-there c.requires in
    omega (arith, c.requires.small, t.year_chunk.long, t.month_before, t.day_before)

pub slice_bounds-year-end : goal.slice_bounds-year-end
slice_bounds-year-end c =
    let t = are-there c.requires in
    omega (arith, c.requires.small, t.year_chunk.long, t.month_before, t.day_before)

pub slice_bounds-month-count : goal.slice_bounds-month-count
slice_bounds-month-count c =
    let t = are-there c.requires in
    omega (arith, c.requires.small, t.year_chunk.long, t.month_before, t.day_before, month-starts c.requires c.has_list-has_month.ensures c.text_start-i.ensures)

pub slice_bounds-month-start : goal.slice_bounds-month-start
slice_bounds-month-start c =
    let t = are-there c.requires in
    omega (arith, c.requires.small, t.year_chunk.long, t.month_before, t.day_before, month-starts c.requires c.has_list-has_month.ensures c.text_start-i.ensures)

pub slice_bounds-month-end : goal.slice_bounds-month-end
slice_bounds-month-end c =
    let t = are-there c.requires in
    omega (arith, c.requires.small, t.year_chunk.long, t.month_before, t.day_before, month-starts c.requires c.has_list-has_month.ensures c.text_start-i.ensures)

pub slice_bounds-m-end : goal.slice_bounds-m-end
slice_bounds-m-end c =
    row-taken c.args.f.now (c.args.month_at + 2) c.has_list-has_month.result c.row_length.ensures c.row_at-m.ensures

pub slice_bounds-month-end-2 : goal.slice_bounds-month-end-2
slice_bounds-month-end-2 c =
    sym (length-take-le _ _ (row-taken c.args.f.now (c.args.month_at + 2) c.has_list-has_month.result c.row_length.ensures c.row_at-m.ensures))

pub slice_bounds-day-count : goal.slice_bounds-day-count
slice_bounds-day-count c =
    let t = are-there c.requires in
    omega (arith, c.requires.small, t.year_chunk.long, t.month_before, t.day_before, day-starts c.requires c.has_list-has_day.ensures c.text_start-j.ensures)

pub slice_bounds-day-start : goal.slice_bounds-day-start
slice_bounds-day-start c =
    let t = are-there c.requires in
    omega (arith, c.requires.small, t.year_chunk.long, t.month_before, t.day_before, day-starts c.requires c.has_list-has_day.ensures c.text_start-j.ensures)

pub slice_bounds-d-end : goal.slice_bounds-d-end
slice_bounds-d-end c =
    row-taken c.args.f.now (c.args.day_at + 2) c.has_list-has_day.result c.row_length-2.ensures c.row_at-d.ensures

pub slice_bounds-day-end-2 : goal.slice_bounds-day-end-2
slice_bounds-day-end-2 c =
    sym (length-take-le _ _ (row-taken c.args.f.now (c.args.day_at + 2) c.has_list-has_day.result c.row_length-2.ensures c.row_at-d.ensures))

pub returns : goal.returns
returns c =
    let read = there-read c.requires c.has_list-has_month.ensures c.has_list-has_day.ensures c.text_start-i.ensures c.text_start-j.ensures c.row_length.ensures c.row_length-2.ensures c.row_at-y.ensures c.row_at-m.ensures c.row_at-d.ensures in
    let both = carried (same-fields _ _ _ c.has_list-has_month.result c.has_list-has_day.result c.then_some.ensures c.then_some-2.ensures ∙ read) (c.three_words.ensures.value, c.three_words.ensures.typed) in record { value = both.0; typed = both.1 }
