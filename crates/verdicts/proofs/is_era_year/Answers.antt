use Rattle.verdicts.specs.Plain.{has_era, is_era_year}
use borrow.Author.Tests.{lt-ltb, le-ltb}
use Rattle.verdicts.proofs.is_era_year.Goals as goal

pub returns-then-e-lt5 : goal.returns-then-e-lt5
unfolding is_era_year has_era
returns-then-e-lt5 c =
    simp (← c.eat_while-e.ensures, lt-ltb _ _ c.if-e-gt0.true, lt-ltb _ _ c.if-e-lt5.true, ← c.ends_in_era.ensures)

pub returns-else-e-lt5 : goal.returns-else-e-lt5
unfolding is_era_year has_era
returns-else-e-lt5 c =
    simp (← c.eat_while-e.ensures, lt-ltb _ _ c.if-e-gt0.true, le-ltb _ _ c.if-e-lt5.false)

pub returns-else-e-gt0 : goal.returns-else-e-gt0
unfolding is_era_year has_era
returns-else-e-gt0 c =
    simp (← c.eat_while-e.ensures, le-ltb _ _ c.if-e-gt0.false)
