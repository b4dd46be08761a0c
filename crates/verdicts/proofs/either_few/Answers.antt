use Rattle.verdicts.specs.Fields.{either_few}
use Rattle.verdicts.proofs.either_few.Goals as goal

pub returns-then-few_digits : goal.returns-then-few_digits
unfolding either_few
returns-then-few_digits c =
    simp (← c.few_digits.ensures, c.if-few_digits.true)

pub returns-else-few_digits : goal.returns-else-few_digits
unfolding either_few
returns-else-few_digits c =
    simp (← c.few_digits.ensures, c.if-few_digits.false, ← c.few_digits-else-few_digits.ensures)
