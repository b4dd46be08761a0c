use Rattle.verdicts.specs.Fields.{is_few, few_from, few_digits}
use borrow.Author.Tests.{lt-ltb, le-ltb}
use Rattle.verdicts.proofs.few_digits.Goals as goal

pub returns-then-e-a-lt4 : goal.returns-then-e-a-lt4
unfolding few_digits few_from is_few
returns-then-e-a-lt4 c =
    simp (← c.eat_whitespace.ensures, ← c.eat_sign-a.ensures, ← c.eat_while-e.ensures, lt-ltb _ _ c.if-a-e.true, lt-ltb _ _ c.if-e-a-lt4.true, ← c.eat_whitespace-c.ensures, ← c.done.ensures)

pub returns-else-e-a-lt4 : goal.returns-else-e-a-lt4
unfolding few_digits few_from is_few
returns-else-e-a-lt4 c =
    simp (← c.eat_whitespace.ensures, ← c.eat_sign-a.ensures, ← c.eat_while-e.ensures, lt-ltb _ _ c.if-a-e.true, le-ltb _ _ c.if-e-a-lt4.false)

pub returns-else-a-e : goal.returns-else-a-e
unfolding few_digits few_from is_few
returns-else-a-e c =
    simp (← c.eat_whitespace.ensures, ← c.eat_sign-a.ensures, ← c.eat_while-e.ensures, le-ltb _ _ c.if-a-e.false)
