use Rattle.chars.specs.Pick.{pick}
use Rattle.frames.specs.Room.{is_single}
use borrow.Author.Rules.{rules}
use Rattle.frames.proofs.is_single.Goals as goal

pub returns-then-has_list : goal.returns-then-has_list
unfolding is_single pick
returns-then-has_list c = simp (← c.has_list.ensures, c.if-has_list.true, ← c.byte_at.ensures)

pub returns : goal.returns
unfolding is_single pick
returns c = simp (← c.has_list.ensures, c.if-has_list.false)
