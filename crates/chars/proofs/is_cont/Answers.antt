use Rattle.chars.specs.Utf8.{is_cont}
use borrow.Author.Tests.{le-leb, lt-leb}
use Rattle.chars.proofs.is_cont.Goals as goal

pub returns-then-b-ge128 : goal.returns-then-b-ge128
unfolding is_cont
returns-then-b-ge128 c = simp (le-leb _ _ c.if-b-ge128.true)

pub returns-else-b-ge128 : goal.returns-else-b-ge128
unfolding is_cont
returns-else-b-ge128 c = simp (lt-leb _ _ c.if-b-ge128.false)
