use Rattle.chars.specs.Classes.{within}
use borrow.Author.Tests.{le-leb, lt-leb}
use Rattle.chars.proofs.within.Goals as goal

pub returns-then-lo-code : goal.returns-then-lo-code
unfolding within
returns-then-lo-code c = simp (le-leb _ _ c.if-lo-code.true)

pub returns-else-lo-code : goal.returns-else-lo-code
unfolding within
returns-else-lo-code c = simp (lt-leb _ _ c.if-lo-code.false)
