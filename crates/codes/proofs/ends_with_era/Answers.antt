use borrow.Author.Tests.{eq-eqb, ne_eqb}
use Rattle.codes.specs.Parts.{ends_with_era}
use borrow.Author.Rules.{rules}
use Rattle.codes.proofs.ends_with_era.Goals as goal

pub returns-then-s-n-eq66 : goal.returns-then-s-n-eq66
unfolding ends_with_era
returns-then-s-n-eq66 c =
    simp (eq-eqb _ _ c.if-s-n-eq32.true, eq-eqb _ _ c.if-s-n-eq66.true)

pub returns-else-s-n-eq66 : goal.returns-else-s-n-eq66
unfolding ends_with_era
returns-else-s-n-eq66 c =
    simp (eq-eqb _ _ c.if-s-n-eq32.true, ne_eqb _ _ c.if-s-n-eq66.false)

pub returns-else-s-n-eq32 : goal.returns-else-s-n-eq32
unfolding ends_with_era
returns-else-s-n-eq32 c = simp (ne_eqb _ _ c.if-s-n-eq32.false)
