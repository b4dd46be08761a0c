use Rattle.strict.proofs.Places.{here}
use lib.Seq.{drop-drop}
use Rattle.chars.specs.Pick.{pick}
use Rattle.strict.specs.Matcher.{field}
use borrow.Author.Tests.{eq-eqb, ne_eqb}
use Rattle.strict.proofs.field_at.Goals as goal

pub returns-then-byte_at-c : goal.returns-then-byte_at-c
unfolding field pick
returns-then-byte_at-c c =
    simp (here, drop-drop, ← c.byte_at.ensures, eq-eqb _ _ c.if-byte_at-c.true, ← c.two_at.ensures, ← c.counted.ensures)

pub returns : goal.returns
unfolding field pick
returns c =
    simp (here, drop-drop, ← c.byte_at.ensures, ne_eqb _ _ c.if-byte_at-c.false)
