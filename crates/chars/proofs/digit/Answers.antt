use Rattle.chars.specs.Ascii.{digit_of}
use Rattle.chars.specs.Pick.{pick}
use borrow.Author.Tests.{lt-ltb, le-ltb}
use borrow.Author.Rules.{rules}
use Rattle.chars.proofs.digit.Goals as goal

pub returns-then-b-lt48 : goal.returns-then-b-lt48
unfolding digit_of pick
returns-then-b-lt48 c = simp (lt-ltb _ _ c.if-b-lt48.true)

pub returns-then-b-lt58 : goal.returns-then-b-lt58
unfolding digit_of pick
returns-then-b-lt58 c = simp (le-ltb _ _ c.if-b-lt48.false, lt-ltb _ _ c.if-b-lt58.true, ← c.wide.ensures)

pub returns : goal.returns
unfolding digit_of pick
returns c = simp (le-ltb _ _ c.if-b-lt48.false, le-ltb _ _ c.if-b-lt58.false)
