use Rattle.strict.proofs.Places.{here}
use lib.Seq.{get_or-drop}
use Rattle.strict.specs.Matcher.{dash_xx}
use borrow.Author.Tests.{eq-eqb, ne_eqb}
use Rattle.strict.proofs.dash_xx_at.Goals as goal

pub returns-then-byte_at-eq88 : goal.returns-then-byte_at-eq88
unfolding dash_xx
returns-then-byte_at-eq88 c =
    simp (here, get_or-drop, ← c.byte_at.ensures, eq-eqb _ _ c.if-byte_at-eq45.true, ← c.byte_at-then-byte_at-eq45.ensures, eq-eqb _ _ c.if-byte_at-eq88.true, ← c.byte_at-then-byte_at-eq88.ensures)

pub returns-else-byte_at-eq88 : goal.returns-else-byte_at-eq88
unfolding dash_xx
returns-else-byte_at-eq88 c =
    simp (here, get_or-drop, ← c.byte_at.ensures, eq-eqb _ _ c.if-byte_at-eq45.true, ← c.byte_at-then-byte_at-eq45.ensures, ne_eqb _ _ c.if-byte_at-eq88.false)

pub returns-else-byte_at-eq45 : goal.returns-else-byte_at-eq45
unfolding dash_xx
returns-else-byte_at-eq45 c =
    simp (here, get_or-drop, ← c.byte_at.ensures, ne_eqb _ _ c.if-byte_at-eq45.false)
