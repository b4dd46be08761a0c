use mathlib.Core.Path.{sym}
use lib.Seq.{length-take-le}
use Rattle.frames.proofs.Parts.{same-list, asks, text_in, table-in, text_is, table_is}
use Rattle.frames.proofs.Said.{carried}
use borrow.Author.Rules.{rules}
use Rattle.frames.proofs.list_in.Goals as goal

pub unpack_list-u-requires : goal.unpack_list-u-requires
unpack_list-u-requires c =
    asks c.requires.0 c.requires.1

pub slice_bounds-list-end : goal.slice_bounds-list-end
slice_bounds-list-end c =
    text_in c.requires.0 c.requires.1 c.unpack_list-u.ensures.put

pub slice_bounds-list-end-2 : goal.slice_bounds-list-end-2
slice_bounds-list-end-2 c =
    sym (length-take-le _ _ (text_in c.requires.0 c.requires.1 c.unpack_list-u.ensures.put))

pub slice_bounds-list-end-3 : goal.slice_bounds-list-end-3
slice_bounds-list-end-3 c =
    table-in c.requires.0 c.requires.1 c.unpack_list-u.ensures.put_2

pub slice_bounds-list-end-4 : goal.slice_bounds-list-end-4
slice_bounds-list-end-4 c =
    sym (length-take-le _ _ (table-in c.requires.0 c.requires.1 c.unpack_list-u.ensures.put_2))

pub returns : goal.returns
returns c =
    let t = text_is c.requires.0 c.requires.1 c.unpack_list-u.ensures.put in
    let u = table_is c.requires.0 c.requires.1 c.unpack_list-u.ensures.put_2 in
    let both = carried (same-list c.args.op t u) (c.read_by.ensures.value, c.read_by.ensures.typed) in record { value = both.0; typed = both.1 }
