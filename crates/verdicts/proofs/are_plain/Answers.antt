use Rattle.verdicts.specs.Fields.{are_plain}
use Rattle.verdicts.specs.Plain.{is_plain_day}
use Rattle.verdicts.proofs.are_plain.Goals as goal

pub returns-then-is_plain_month : goal.returns-then-is_plain_month
unfolding are_plain is_plain_day
returns-then-is_plain_month c =
    simp (← c.is_plain_year.ensures, c.if-is_plain_year.true, ← c.is_plain_month.ensures, c.if-is_plain_month.true, ← c.is_digits.ensures)

pub returns-else-is_plain_month : goal.returns-else-is_plain_month
unfolding are_plain is_plain_day
returns-else-is_plain_month c =
    simp (← c.is_plain_year.ensures, c.if-is_plain_year.true, ← c.is_plain_month.ensures, c.if-is_plain_month.false)

pub returns-else-is_plain_year : goal.returns-else-is_plain_year
unfolding are_plain is_plain_day
returns-else-is_plain_year c =
    simp (← c.is_plain_year.ensures, c.if-is_plain_year.false)
