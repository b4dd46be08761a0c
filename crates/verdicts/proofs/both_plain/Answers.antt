use Rattle.verdicts.specs.Fields.{both_plain}
use Rattle.verdicts.proofs.both_plain.Goals as goal

pub returns-then-are_plain : goal.returns-then-are_plain
unfolding both_plain
returns-then-are_plain c =
    simp (← c.are_plain.ensures, c.if-are_plain.true, ← c.are_plain-then-are_plain.ensures)

pub returns-else-are_plain : goal.returns-else-are_plain
unfolding both_plain
returns-else-are_plain c =
    simp (← c.are_plain.ensures, c.if-are_plain.false)
