use Rattle.verdicts.specs.Plain.{is_plain_year}
use borrow.Author.Tests.{eq-eqb, ne_eqb}
use Rattle.verdicts.proofs.is_plain_year.Goals as goal

pub returns-then-s-eq0 : goal.returns-then-s-eq0
unfolding is_plain_year
returns-then-s-eq0 c = simp (eq-eqb _ _ c.if-s-eq0.true)

pub returns-then-is_full_year : goal.returns-then-is_full_year
unfolding is_plain_year
returns-then-is_full_year c =
    simp (ne_eqb _ _ c.if-s-eq0.false, ← c.is_full_year.ensures, c.if-is_full_year.true)

pub returns-else-is_full_year : goal.returns-else-is_full_year
unfolding is_plain_year
returns-else-is_full_year c =
    simp (ne_eqb _ _ c.if-s-eq0.false, ← c.is_full_year.ensures, c.if-is_full_year.false, ← c.is_era_year.ensures)
