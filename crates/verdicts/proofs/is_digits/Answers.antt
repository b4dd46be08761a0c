use Rattle.verdicts.specs.Plain.{is_digits}
use borrow.Author.Tests.{le-leb, lt-leb}
use Rattle.verdicts.proofs.is_digits.Goals as goal

pub returns-then-s-high : goal.returns-then-s-high
unfolding is_digits
returns-then-s-high c =
    simp (le-leb _ _ c.if-low-s.true, le-leb _ _ c.if-s-high.true, ← c.eat_while-e.ensures, ← c.done.ensures)

pub returns-else-s-high : goal.returns-else-s-high
unfolding is_digits
returns-else-s-high c =
    simp (le-leb _ _ c.if-low-s.true, lt-leb _ _ c.if-s-high.false)

pub returns-else-low-s : goal.returns-else-low-s
unfolding is_digits
returns-else-low-s c = simp (lt-leb _ _ c.if-low-s.false)
