use Rattle.codes.specs.Back.{is_plain}
use borrow.Author.Tests.{lt-ltb, le-ltb}
use borrow.Author.Rules.{rules}
use Rattle.codes.proofs.is_plain.Goals as goal

pub returns-then-last-lt3 : goal.returns-then-last-lt3
unfolding is_plain
returns-then-last-lt3 c =
    simp (← c.is_plain_word.ensures, c.if-is_plain_word.true, lt-ltb _ _ c.if-last-lt3.true)

pub returns-then-is_plain_word : goal.returns-then-is_plain_word
unfolding is_plain
returns-then-is_plain_word c =
    simp (← c.is_plain_word.ensures, c.if-is_plain_word.true, le-ltb _ _ c.if-last-lt3.false, ← c.is_plain_word-then-is_plain_word.ensures)

pub returns : goal.returns
unfolding is_plain
returns c =
    simp (← c.is_plain_word.ensures, c.if-is_plain_word.false)
