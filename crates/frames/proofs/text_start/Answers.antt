use Rattle.chars.specs.Pick.{pick}
use Rattle.frames.specs.Room.{text_start}
use borrow.Author.Rules.{rules}
use Rattle.frames.proofs.text_start.Goals as goal

pub returns-then-has : goal.returns-then-has
unfolding text_start pick
returns-then-has c = simp c.if-has.true

pub returns : goal.returns
unfolding text_start pick
returns c = simp c.if-has.false
