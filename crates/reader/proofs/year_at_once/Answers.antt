use Rattle.codes.specs.Lists.{on_normal}
use Rattle.chars.specs.Pick.{pick}
use borrow.Author.Rules.{rules}
use Rattle.reader.proofs.year_at_once.Goals as goal

pub returns-then-is_one_normal : goal.returns-then-is_one_normal
unfolding on_normal pick
returns-then-is_one_normal c = simp (← c.is_one_normal.ensures, c.if-is_one_normal.true, ← c.year_part.ensures)

pub returns : goal.returns
unfolding on_normal pick
returns c = simp (← c.is_one_normal.ensures, c.if-is_one_normal.false)
