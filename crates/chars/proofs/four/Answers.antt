use Rattle.chars.specs.Pick.{pick}
use Rattle.chars.specs.Utf8.{decode4}
use borrow.Author.Tests.{le-leb, lt-leb}
use borrow.Author.Rules.{rules}
use Rattle.chars.proofs.four.Goals as goal

pub returns-then-code-le1114111 : goal.returns-then-code-le1114111
unfolding decode4 pick
returns-then-code-le1114111 c =
    simp (← c.is_cont.ensures, c.if-is_cont.true, ← c.is_cont-then-is_cont.ensures, c.if-is_cont-2.true, ← c.is_cont-then-is_cont-2.ensures, c.if-is_cont-3.true, ← c.head4.ensures, ← c.join.ensures, ← c.join-then-is_cont-3.ensures, ← c.join-code.ensures, le-leb _ _ c.if-code-ge65536.true, le-leb _ _ c.if-code-le1114111.true)

pub returns-else-code-le1114111 : goal.returns-else-code-le1114111
unfolding decode4 pick
returns-else-code-le1114111 c =
    simp (← c.is_cont.ensures, c.if-is_cont.true, ← c.is_cont-then-is_cont.ensures, c.if-is_cont-2.true, ← c.is_cont-then-is_cont-2.ensures, c.if-is_cont-3.true, ← c.head4.ensures, ← c.join.ensures, ← c.join-then-is_cont-3.ensures, ← c.join-code.ensures, le-leb _ _ c.if-code-ge65536.true, lt-leb _ _ c.if-code-le1114111.false)

pub returns-else-code-ge65536 : goal.returns-else-code-ge65536
unfolding decode4 pick
returns-else-code-ge65536 c =
    simp (← c.is_cont.ensures, c.if-is_cont.true, ← c.is_cont-then-is_cont.ensures, c.if-is_cont-2.true, ← c.is_cont-then-is_cont-2.ensures, c.if-is_cont-3.true, ← c.head4.ensures, ← c.join.ensures, ← c.join-then-is_cont-3.ensures, ← c.join-code.ensures, lt-leb _ _ c.if-code-ge65536.false)

pub returns-else-is_cont-3 : goal.returns-else-is_cont-3
unfolding decode4 pick
returns-else-is_cont-3 c =
    simp (← c.is_cont.ensures, c.if-is_cont.true, ← c.is_cont-then-is_cont.ensures, c.if-is_cont-2.true, ← c.is_cont-then-is_cont-2.ensures, c.if-is_cont-3.false)

pub returns-else-is_cont-2 : goal.returns-else-is_cont-2
unfolding decode4 pick
returns-else-is_cont-2 c =
    simp (← c.is_cont.ensures, c.if-is_cont.true, ← c.is_cont-then-is_cont.ensures, c.if-is_cont-2.false)

pub returns-else-is_cont : goal.returns-else-is_cont
unfolding decode4 pick
returns-else-is_cont c =
    simp (← c.is_cont.ensures, c.if-is_cont.false)
