use mathlib.Core.Path.{sym, ap, ◌∙◌}
use native.Mathlib.Omega.{arith}
use Rattle.frames.specs.declared.Operation.{Operation}
use Rattle.frames.specs.Frame.{formed, read_of}
use Rattle.frames.proofs.Parts.{same-list, single, list-formed, list-by}
use Rattle.frames.proofs.Said.{carried}
use borrow.Author.Rules.{rules}
use Rattle.frames.proofs.read_list.Goals as goal

pub slice_bounds-list-count : goal.slice_bounds-list-count
slice_bounds-list-count c =
    let o = single c.args.f.now c.requires.1 c.byte_at.ensures c.if-byte_at-eq1.true in
    omega (arith, o.long)

pub slice_bounds-list-start : goal.slice_bounds-list-start
slice_bounds-list-start c =
    let o = single c.args.f.now c.requires.1 c.byte_at.ensures c.if-byte_at-eq1.true in
    omega (arith, o.long)

pub returns-then-byte_at-eq1 : goal.returns-then-byte_at-eq1
returns-then-byte_at-eq1 c =
    let o = single c.args.f.now c.requires.1 c.byte_at.ensures c.if-byte_at-eq1.true in
    let both = carried (same-list c.args.op o.text_there (c.row_at-row.ensures ∙ o.row_there)) (c.read_by.ensures.value, c.read_by.ensures.typed) in record { value = both.0; typed = both.1 }

pub list_in-requires : goal.list_in-requires
list_in-requires c =
    (record { small = c.requires.0; for_text = omega arith; for_table = omega arith }, c.requires.1)

pub read_large-requires : goal.read_large-requires
read_large-requires c =
    let f = c.args.f.now in
    (c.requires.0, ap (λ (x : Operation). formed x f) c.requires.3 ∙ list-formed f c.args.op c.requires.2 ∙ c.requires.1)

pub returns : goal.returns
returns c =
    let f = c.args.f.now in
    let both = carried (ap (λ (x : Operation). read_of x f) c.requires.3 ∙ sym (list-by f c.args.op c.requires.2)) (c.read_large.ensures.value, c.read_large.ensures.typed) in record { value = both.0; typed = both.1 }
