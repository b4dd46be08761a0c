use Rattle.verdicts.specs.Dates.{end_day}
use Rattle.verdicts.proofs.end_day.Goals as goal

pub returns-in-At : goal.returns-in-At
unfolding end_day
returns-in-At c = simp c.in-At.is

pub returns-in-After : goal.returns-in-After
unfolding end_day
returns-in-After c = simp c.in-After.is

pub returns-in-Before : goal.returns-in-Before
unfolding end_day
returns-in-Before c = simp c.in-Before.is

pub returns-in-Between : goal.returns-in-Between
unfolding end_day
returns-in-Between c =
    simp c.in-Between.is
