use Rattle.chars.specs.Pick.{pick}
use Rattle.frames.specs.Room.{row_length}
use Rattle.frames.proofs.row_length.Goals as goal

pub returns-then-has : goal.returns-then-has
unfolding row_length pick
returns-then-has c = simp c.if-has.true

pub returns : goal.returns
unfolding row_length pick
returns c = simp c.if-has.false
