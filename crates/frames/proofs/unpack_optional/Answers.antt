use mathlib.Core.Path.{sym, ◌∙◌}
use Prim.Native.Nat.{◌+◌}
use native.Mathlib.Omega.{arith}
use Rattle.frames.proofs.Places.{present, list-starts, present-puts, absent-puts}
use borrow.Author.Rules.{rules}
use Rattle.frames.proofs.unpack_optional.Goals as goal

pub overflow_add-at : goal.overflow_add-at
overflow_add-at c =
    let i = present c.args.f.now c.args.at (sym c.has_list.ensures ∙ c.if-has_list.true) in
    let l = list-starts c.requires.0 (c.args.at + 1) c.args.m c.args.k (omega (arith, i, c.requires.1)) (omega (arith, c.requires.2)) (omega (arith, c.requires.3)) in
    omega arith

pub unpack_list-requires : goal.unpack_list-requires
unpack_list-requires c =
    let i = present c.args.f.now c.args.at (sym c.has_list.ensures ∙ c.if-has_list.true) in
    (c.requires.0, omega (arith, i, c.requires.1), omega (arith, c.requires.2), omega (arith, c.requires.3))

pub returns-then-has_list : goal.returns-then-has_list
returns-then-has_list c =
    let both = present-puts c.args.f.now c.args.at (sym c.has_list.ensures ∙ c.if-has_list.true) c.unpack_list.ensures.put c.unpack_list.ensures.put_2 c.unpack_list.ensures.text_bound.0 c.unpack_list.ensures.text_bound.1 in record { put = both.0; put_2 = both.1.0; text_bound = both.1.1 }

pub returns : goal.returns
returns c =
    let both = absent-puts c.args.f.now c.args.at (sym c.has_list.ensures ∙ c.if-has_list.false) c.args.text.now c.args.table.now c.requires.2 c.requires.3 in record { put = both.0; put_2 = both.1.0; text_bound = both.1.1 }
