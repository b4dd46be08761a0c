use Rattle.chars.specs.Pick.{pick}
use Rattle.chars.specs.Utf8.{decode3}
use borrow.Author.Tests.{le-leb, lt-leb}
use borrow.Author.Rules.{rules}
use Rattle.chars.proofs.three.Goals as goal

pub returns-then-is_surrogate : goal.returns-then-is_surrogate
unfolding decode3 pick
returns-then-is_surrogate c =
    simp (← c.is_cont.ensures, c.if-is_cont.true, ← c.is_cont-then-is_cont.ensures, c.if-is_cont-2.true, ← c.head3.ensures, ← c.join.ensures, ← c.join-code.ensures, le-leb _ _ c.if-code-ge2048.true, ← c.is_surrogate.ensures, c.if-is_surrogate.true)

pub returns-then-code-ge2048 : goal.returns-then-code-ge2048
unfolding decode3 pick
returns-then-code-ge2048 c =
    simp (← c.is_cont.ensures, c.if-is_cont.true, ← c.is_cont-then-is_cont.ensures, c.if-is_cont-2.true, ← c.head3.ensures, ← c.join.ensures, ← c.join-code.ensures, le-leb _ _ c.if-code-ge2048.true, ← c.is_surrogate.ensures, c.if-is_surrogate.false)

pub returns-else-code-ge2048 : goal.returns-else-code-ge2048
unfolding decode3 pick
returns-else-code-ge2048 c =
    simp (← c.is_cont.ensures, c.if-is_cont.true, ← c.is_cont-then-is_cont.ensures, c.if-is_cont-2.true, ← c.head3.ensures, ← c.join.ensures, ← c.join-code.ensures, lt-leb _ _ c.if-code-ge2048.false)

pub returns-else-is_cont-2 : goal.returns-else-is_cont-2
unfolding decode3 pick
returns-else-is_cont-2 c =
    simp (← c.is_cont.ensures, c.if-is_cont.true, ← c.is_cont-then-is_cont.ensures, c.if-is_cont-2.false)

pub returns-else-is_cont : goal.returns-else-is_cont
unfolding decode3 pick
returns-else-is_cont c =
    simp (← c.is_cont.ensures, c.if-is_cont.false)
