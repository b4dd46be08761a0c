use Rattle.verdicts.specs.Plain.{ends_in_era}
use Rattle.verdicts.proofs.ends_in_era.Goals as goal

pub returns-then-ends_in : goal.returns-then-ends_in
unfolding ends_in_era
returns-then-ends_in c =
    simp (← c.ends_in.ensures, c.if-ends_in.true)

pub returns-then-ends_in-2 : goal.returns-then-ends_in-2
unfolding ends_in_era
returns-then-ends_in-2 c =
    simp (← c.ends_in.ensures, c.if-ends_in.false, ← c.ends_in-else-ends_in.ensures, c.if-ends_in-2.true)

pub returns-then-ends_in-3 : goal.returns-then-ends_in-3
unfolding ends_in_era
returns-then-ends_in-3 c =
    simp (← c.ends_in.ensures, c.if-ends_in.false, ← c.ends_in-else-ends_in.ensures, c.if-ends_in-2.false, ← c.ends_in-else-ends_in-2.ensures, c.if-ends_in-3.true)

pub returns-else-ends_in-3 : goal.returns-else-ends_in-3
unfolding ends_in_era
returns-else-ends_in-3 c =
    simp (← c.ends_in.ensures, c.if-ends_in.false, ← c.ends_in-else-ends_in.ensures, c.if-ends_in-2.false, ← c.ends_in-else-ends_in-2.ensures, c.if-ends_in-3.false, ← c.ends_in-else-ends_in-3.ensures)
