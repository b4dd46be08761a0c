use mathlib.Core.Path.{◌∙◌}
use native.Mathlib.Omega.{arith}
use Rattle.puts.proofs.Puts.{kept}
use Rattle.frames.proofs.Parts.{year-asks, month-asks, day-asks, lists-ask, lists-are}
use Rattle.frames.proofs.Said.{carried}
use borrow.Author.Rules.{rules}
use Rattle.frames.proofs.three_in.Goals as goal

pub unpack_list-y-requires : goal.unpack_list-y-requires
unpack_list-y-requires c =
    year-asks c.requires.0 c.requires.1 c.list_end-month_at.ensures.0 c.optional_end-day_at.ensures.0

pub unpack_optional-m-requires : goal.unpack_optional-m-requires
unpack_optional-m-requires c =
    let l = c.list_end-month_at.ensures.0 in
    month-asks c.requires.0 c.requires.1 l c.optional_end-day_at.ensures.0 c.unpack_list-y.ensures.put c.unpack_list-y.ensures.put_2 (omega (arith, l, c.unpack_list-y.ensures.text_bound.0)) (omega (arith, l, c.unpack_list-y.ensures.text_bound.1))

pub unpack_optional-d-requires : goal.unpack_optional-d-requires
unpack_optional-d-requires c =
    let l = c.list_end-month_at.ensures.0 in
    let o = c.optional_end-day_at.ensures.0 in
    day-asks c.requires.0 c.requires.1 l o c.unpack_list-y.ensures.put c.unpack_list-y.ensures.put_2 (omega (arith, l, c.unpack_list-y.ensures.text_bound.0)) (omega (arith, l, c.unpack_list-y.ensures.text_bound.1)) c.unpack_optional-m.ensures.put c.unpack_optional-m.ensures.put_2 (omega (arith, o, c.unpack_optional-m.ensures.text_bound.0)) (omega (arith, o, c.unpack_optional-m.ensures.text_bound.1))

pub read_lists-requires : goal.read_lists-requires
read_lists-requires c =
    let l = c.list_end-month_at.ensures.0 in
    let o = c.optional_end-day_at.ensures.0 in
    let both = lists-ask c.requires.0 c.requires.1 l o c.unpack_list-y.ensures.put c.unpack_list-y.ensures.put_2 (omega (arith, l, c.unpack_list-y.ensures.text_bound.0)) (omega (arith, l, c.unpack_list-y.ensures.text_bound.1)) c.unpack_optional-m.ensures.put c.unpack_optional-m.ensures.put_2 (omega (arith, o, c.unpack_optional-m.ensures.text_bound.0)) (omega (arith, o, c.unpack_optional-m.ensures.text_bound.1)) c.unpack_optional-d.ensures.put c.unpack_optional-d.ensures.put_2 c.unpack_optional-d.ensures.text_bound.0 c.unpack_optional-d.ensures.text_bound.1 in record { text_le_text = both.0; table_le_table = both.1 }

pub shape_of-text : goal.shape_of-text
shape_of-text c = kept c.unpack_optional-d.ensures.put ∙ kept c.unpack_optional-m.ensures.put ∙ kept c.unpack_list-y.ensures.put

pub shape_of-table : goal.shape_of-table
shape_of-table c = kept c.unpack_optional-d.ensures.put_2 ∙ kept c.unpack_optional-m.ensures.put_2 ∙ kept c.unpack_list-y.ensures.put_2

pub returns : goal.returns
returns c =
    let l = c.list_end-month_at.ensures.0 in
    let o = c.optional_end-day_at.ensures.0 in
    let both = carried (lists-are c.requires.0 c.requires.1 l o c.unpack_list-y.ensures.put c.unpack_list-y.ensures.put_2 (omega (arith, l, c.unpack_list-y.ensures.text_bound.0)) (omega (arith, l, c.unpack_list-y.ensures.text_bound.1)) c.unpack_optional-m.ensures.put c.unpack_optional-m.ensures.put_2 (omega (arith, o, c.unpack_optional-m.ensures.text_bound.0)) (omega (arith, o, c.unpack_optional-m.ensures.text_bound.1)) c.unpack_optional-d.ensures.put c.unpack_optional-d.ensures.put_2 c.unpack_optional-d.ensures.text_bound.0 c.unpack_optional-d.ensures.text_bound.1 c.has_list-has_month.ensures c.has_list-has_day.ensures) (c.read_lists.ensures.value, c.read_lists.ensures.typed) in record { value = both.0; typed = both.1 }
