use Rattle.chars.specs.Pick.{pick}
use Rattle.headers.specs.Header.{header}
use borrow.Author.Tests.{lt-ltb, le-ltb}
use borrow.Author.Rules.{rules}
use Rattle.headers.proofs.read_header.Goals as goal

pub returns-then-last : goal.returns-then-last
unfolding header pick
returns-then-last c =
    simp (c.if-last.true, ← c.header_behind.ensures)

pub returns-then-block-lt3 : goal.returns-then-block-lt3
unfolding header pick
returns-then-block-lt3 c =
    simp (c.if-last.false, lt-ltb _ _ c.if-block-lt3.true)

pub returns : goal.returns
unfolding header pick
returns c =
    simp (c.if-last.false, le-ltb _ _ c.if-block-lt3.false, ← c.header_behind-2.ensures)
