use Rattle.chars.specs.Pick.{pick}
use Rattle.chars.specs.Utf8.{decode2}
use borrow.Author.Tests.{le-leb, lt-leb}
use borrow.Author.Rules.{rules}
use Rattle.chars.proofs.two.Goals as goal

pub returns-then-code-ge128 : goal.returns-then-code-ge128
unfolding decode2 pick
returns-then-code-ge128 c =
    simp (← c.is_cont.ensures, c.if-is_cont.true, ← c.head2.ensures, ← c.join-code.ensures, le-leb _ _ c.if-code-ge128.true)

pub returns-else-code-ge128 : goal.returns-else-code-ge128
unfolding decode2 pick
returns-else-code-ge128 c =
    simp (← c.is_cont.ensures, c.if-is_cont.true, ← c.head2.ensures, ← c.join-code.ensures, lt-leb _ _ c.if-code-ge128.false)

pub returns-else-is_cont : goal.returns-else-is_cont
unfolding decode2 pick
returns-else-is_cont c =
    simp (← c.is_cont.ensures, c.if-is_cont.false)
