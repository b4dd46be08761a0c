use Rattle.frames.specs.Lists.{row_at}
use borrow.Author.Rules.{rules}
use Rattle.frames.proofs.row_at.Goals as goal

pub returns : goal.returns
unfolding row_at
returns c = simp (← c.byte_at-kind.ensures, ← c.byte_at-len.ensures, ← c.word_at.ensures, ← c.word_at-2.ensures)
