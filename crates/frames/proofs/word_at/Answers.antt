use Rattle.frames.specs.Lists.{word_at}
use borrow.Author.Rules.{rules}
use Rattle.frames.proofs.word_at.Goals as goal

pub returns-then-at-f : goal.returns-then-at-f
unfolding word_at
returns-then-at-f c = c.word_of.ensures

pub returns : goal.returns
unfolding word_at
returns c =
    rw (c.word_of-2.ensures, c.byte_at.ensures, c.byte_at-2.ensures, c.byte_at-3.ensures, c.byte_at-4.ensures)
