use Rattle.headers.specs.Columns.{twice_date}
use borrow.Author.Rules.{rules}
use Rattle.headers.proofs.twice_date.Goals as goal

pub returns-then-again : goal.returns-then-again
unfolding twice_date
returns-then-again c =
    simp (← c.again.ensures, c.if-again.true)

pub returns-then-again-2 : goal.returns-then-again-2
unfolding twice_date
returns-then-again-2 c =
    simp (← c.again.ensures, c.if-again.false, ← c.again-2.ensures, c.if-again-2.true)

pub returns-then-again-3 : goal.returns-then-again-3
unfolding twice_date
returns-then-again-3 c =
    simp (← c.again.ensures, c.if-again.false, ← c.again-2.ensures, c.if-again-2.false, ← c.again-3.ensures, c.if-again-3.true)

pub returns-then-again-4 : goal.returns-then-again-4
unfolding twice_date
returns-then-again-4 c =
    simp (← c.again.ensures, c.if-again.false, ← c.again-2.ensures, c.if-again-2.false, ← c.again-3.ensures, c.if-again-3.false, ← c.again-4.ensures, c.if-again-4.true)

pub returns-then-again-5 : goal.returns-then-again-5
unfolding twice_date
returns-then-again-5 c =
    simp (← c.again.ensures, c.if-again.false, ← c.again-2.ensures, c.if-again-2.false, ← c.again-3.ensures, c.if-again-3.false, ← c.again-4.ensures, c.if-again-4.false, ← c.again-5.ensures, c.if-again-5.true)

pub returns : goal.returns
unfolding twice_date
returns c =
    simp (← c.again.ensures, c.if-again.false, ← c.again-2.ensures, c.if-again-2.false, ← c.again-3.ensures, c.if-again-3.false, ← c.again-4.ensures, c.if-again-4.false, ← c.again-5.ensures, c.if-again-5.false, ← c.again-6.ensures)
