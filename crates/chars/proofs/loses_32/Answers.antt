use Rattle.chars.specs.Upper.{loses32}
use borrow.Author.Rules.{rules}
use Rattle.chars.proofs.loses_32.Goals as goal

pub returns-then-within : goal.returns-then-within
unfolding loses32
returns-then-within c =
    simp (← c.within.ensures, c.if-within.true)

pub returns-then-within-2 : goal.returns-then-within-2
unfolding loses32
returns-then-within-2 c =
    simp (← c.within.ensures, c.if-within.false, ← c.within-2.ensures, c.if-within-2.true)

pub returns : goal.returns
unfolding loses32
returns c =
    simp (← c.within.ensures, c.if-within.false, ← c.within-2.ensures, c.if-within-2.false, ← c.within-3.ensures)
