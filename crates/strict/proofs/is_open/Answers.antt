use Rattle.strict.specs.Matcher.{is_open}
use borrow.Author.Tests.{eq-eqb, ne_eqb}
use Rattle.strict.proofs.is_open.Goals as goal

pub returns-then-byte_at-eq46 : goal.returns-then-byte_at-eq46
unfolding is_open
returns-then-byte_at-eq46 c =
    simp (← c.byte_at.ensures, eq-eqb _ _ c.if-byte_at-eq46.true, ← c.byte_at-then-byte_at-eq46.ensures)

pub returns-else-byte_at-eq46 : goal.returns-else-byte_at-eq46
unfolding is_open
returns-else-byte_at-eq46 c =
    simp (← c.byte_at.ensures, ne_eqb _ _ c.if-byte_at-eq46.false)
