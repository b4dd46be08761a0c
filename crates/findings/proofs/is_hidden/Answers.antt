use Rattle.findings.specs.Escapes.{is_hidden}
use borrow.Author.Tests.{lt-ltb, le-ltb}
use Rattle.findings.proofs.is_hidden.Goals as goal

pub returns-then-b-lt32 : goal.returns-then-b-lt32
unfolding is_hidden
returns-then-b-lt32 c = simp (lt-ltb _ _ c.if-b-lt32.true)

pub returns : goal.returns
unfolding is_hidden
returns c = simp (le-ltb _ _ c.if-b-lt32.false)
