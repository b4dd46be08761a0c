use mathlib.Core.Path.{refl, sym, ap, ◌∙◌}
use native.Mathlib.Omega.{arith}
use Rattle.frames.specs.declared.Operation.{Operation}
use Rattle.frames.specs.Frame.{formed, read_of}
use Rattle.frames.specs.Room.{reads_list}
use Rattle.frames.proofs.Parts.{op-is, list-formed, list-by, three-of, nothing_read}
use Rattle.frames.proofs.Said.{carried}
use borrow.Author.Rules.{rules}
use Rattle.frames.proofs.read_large.Goals as goal

pub list_in-requires : goal.list_in-requires
unfolding reads_list
list_in-requires c =
    let f = c.args.f.now in
    let e = op-is f c.byte_at.ensures c.asked-op.ensures refl in
    (record { small = c.requires.0; for_text = omega (arith, c.requires.0); for_table = omega (arith, c.requires.0) }, sym (list-formed f c.asked-op.result (ap reads_list c.in-Ported.is)) ∙ ap (λ (x : Operation). formed x f) (sym e) ∙ c.requires.1)

pub list_in-requires-in-Strict : goal.list_in-requires-in-Strict
unfolding reads_list
list_in-requires-in-Strict c =
    let f = c.args.f.now in
    let e = op-is f c.byte_at.ensures c.asked-op.ensures refl in
    (record { small = c.requires.0; for_text = omega (arith, c.requires.0); for_table = omega (arith, c.requires.0) }, sym (list-formed f c.asked-op.result (ap reads_list c.in-Strict.is)) ∙ ap (λ (x : Operation). formed x f) (sym e) ∙ c.requires.1)

pub list_in-requires-in-LevelOne : goal.list_in-requires-in-LevelOne
unfolding reads_list
list_in-requires-in-LevelOne c =
    let f = c.args.f.now in
    let e = op-is f c.byte_at.ensures c.asked-op.ensures refl in
    (record { small = c.requires.0; for_text = omega (arith, c.requires.0); for_table = omega (arith, c.requires.0) }, sym (list-formed f c.asked-op.result (ap reads_list c.in-LevelOne.is)) ∙ ap (λ (x : Operation). formed x f) (sym e) ∙ c.requires.1)

pub three_in-requires : goal.three_in-requires
three_in-requires c =
    let f = c.args.f.now in
    let e = op-is f c.byte_at.ensures c.asked-op.ensures c.in-ThreeFields.is in
    (record { small = c.requires.0; for_text = omega (arith, c.requires.0); for_table = omega (arith, c.requires.0) }, sym (three-of f) ∙ ap (λ (x : Operation). formed x f) (sym e) ∙ c.requires.1)

pub returns-in-Ported : goal.returns-in-Ported
unfolding reads_list
returns-in-Ported c =
    let f = c.args.f.now in
    let e = op-is f c.byte_at.ensures c.asked-op.ensures refl in
    let both = carried (list-by f c.asked-op.result (ap reads_list c.in-Ported.is) ∙ ap (λ (x : Operation). read_of x f) (sym e)) (c.list_in.ensures.value, c.list_in.ensures.typed) in record { value = both.0; typed = both.1 }

pub returns-in-Strict : goal.returns-in-Strict
unfolding reads_list
returns-in-Strict c =
    let f = c.args.f.now in
    let e = op-is f c.byte_at.ensures c.asked-op.ensures refl in
    let both = carried (list-by f c.asked-op.result (ap reads_list c.in-Strict.is) ∙ ap (λ (x : Operation). read_of x f) (sym e)) (c.list_in-in-Strict.ensures.value, c.list_in-in-Strict.ensures.typed) in record { value = both.0; typed = both.1 }

pub returns-in-LevelOne : goal.returns-in-LevelOne
unfolding reads_list
returns-in-LevelOne c =
    let f = c.args.f.now in
    let e = op-is f c.byte_at.ensures c.asked-op.ensures refl in
    let both = carried (list-by f c.asked-op.result (ap reads_list c.in-LevelOne.is) ∙ ap (λ (x : Operation). read_of x f) (sym e)) (c.list_in-in-LevelOne.ensures.value, c.list_in-in-LevelOne.ensures.typed) in record { value = both.0; typed = both.1 }

pub returns-in-ThreeFields : goal.returns-in-ThreeFields
returns-in-ThreeFields c =
    let f = c.args.f.now in
    let e = op-is f c.byte_at.ensures c.asked-op.ensures c.in-ThreeFields.is in
    let both = carried (ap (λ (x : Operation). read_of x f) (sym e)) (c.three_in.ensures.value, c.three_in.ensures.typed) in record { value = both.0; typed = both.1 }

pub returns-in-Unknown : goal.returns-in-Unknown
returns-in-Unknown c =
    let f = c.args.f.now in
    let e = op-is f c.byte_at.ensures c.asked-op.ensures c.in-Unknown.is in
    let both = carried (nothing_read f ∙ ap (λ (x : Operation). read_of x f) (sym e)) (c.bad_frame.ensures.value, c.bad_frame.ensures.typed) in record { value = both.0; typed = both.1 }
