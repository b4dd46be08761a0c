use Rattle.chars.specs.Utf8.{is_surrogate}
use borrow.Author.Tests.{le-leb, lt-leb}
use Rattle.chars.proofs.is_surrogate.Goals as goal

pub returns-then-code-ge55296 : goal.returns-then-code-ge55296
unfolding is_surrogate
returns-then-code-ge55296 c = simp (le-leb _ _ c.if-code-ge55296.true)

pub returns-else-code-ge55296 : goal.returns-else-code-ge55296
unfolding is_surrogate
returns-else-code-ge55296 c = simp (lt-leb _ _ c.if-code-ge55296.false)
