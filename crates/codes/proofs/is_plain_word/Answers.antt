use Rattle.codes.specs.Back.{is_plain_word}
use borrow.Author.Tests.{lt-ltb, le-ltb}
use borrow.Author.Rules.{rules}
use Rattle.codes.proofs.is_plain_word.Goals as goal

pub returns-then-w-lt99 : goal.returns-then-w-lt99
unfolding is_plain_word
returns-then-w-lt99 c =
    simp (← c.is_plain_year.ensures, c.if-is_plain_year.true, lt-ltb _ _ c.if-w-lt99.true)

pub returns-else-w-lt99 : goal.returns-else-w-lt99
unfolding is_plain_word
returns-else-w-lt99 c =
    simp (← c.is_plain_year.ensures, c.if-is_plain_year.true, le-ltb _ _ c.if-w-lt99.false)

pub returns-else-is_plain_year : goal.returns-else-is_plain_year
unfolding is_plain_word
returns-else-is_plain_year c =
    simp (← c.is_plain_year.ensures, c.if-is_plain_year.false)
