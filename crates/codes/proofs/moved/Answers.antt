use borrow.Author.Tests.{lt-ltb, le-ltb}
use Rattle.chars.specs.Pick.{pick}
use Rattle.codes.specs.Ported.{moved_words}
use borrow.Author.Rules.{rules}
use Rattle.codes.proofs.moved.Goals as goal

pub returns-then-w-lt4294967296 : goal.returns-then-w-lt4294967296
unfolding moved_words pick
returns-then-w-lt4294967296 c = rw (lt-ltb _ _ c.if-w-lt4294967296.true)

pub returns : goal.returns
unfolding moved_words pick
returns c = rw (le-ltb _ _ c.if-w-lt4294967296.false, c.farther.ensures, c.farther-2.ensures)
