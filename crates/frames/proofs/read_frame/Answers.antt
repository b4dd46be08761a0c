use mathlib.Core.Path.{refl, ap}
use Rattle.frames.specs.Room.{reads_list}
use Rattle.frames.proofs.Parts.{unformed-read, none-formed, op-is}
use Rattle.frames.proofs.Said.{carried}
use borrow.Author.Rules.{rules}
use Rattle.frames.proofs.read_frame.Goals as goal

pub read_one-requires : goal.read_one-requires
unfolding reads_list
read_one-requires c =
    (c.requires, ap reads_list c.in-Ported.is, op-is c.args.f.now c.byte_at.ensures c.asked-op.ensures refl)

pub read_one-requires-in-Strict : goal.read_one-requires-in-Strict
unfolding reads_list
read_one-requires-in-Strict c =
    (c.requires, ap reads_list c.in-Strict.is, op-is c.args.f.now c.byte_at.ensures c.asked-op.ensures refl)

pub read_one-requires-in-LevelOne : goal.read_one-requires-in-LevelOne
unfolding reads_list
read_one-requires-in-LevelOne c =
    (c.requires, ap reads_list c.in-LevelOne.is, op-is c.args.f.now c.byte_at.ensures c.asked-op.ensures refl)

pub read_three-requires : goal.read_three-requires
read_three-requires c =
    (c.requires, op-is c.args.f.now c.byte_at.ensures c.asked-op.ensures c.in-ThreeFields.is)

pub returns-in-Unknown : goal.returns-in-Unknown
returns-in-Unknown c =
    let f = c.args.f.now in
    let both = carried (unformed-read f (op-is f c.byte_at.ensures c.asked-op.ensures c.in-Unknown.is) (none-formed f)) (c.bad_frame.ensures.value, c.bad_frame.ensures.typed) in record { value = both.0; typed = both.1 }
