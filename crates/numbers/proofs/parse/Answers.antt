use Rattle.chars.specs.Pick.{pick}
use Rattle.numbers.specs.Parse.{parse}
use borrow.Author.Tests.{eq-eqb, ne_eqb}
use borrow.Author.Rules.{rules}
use Rattle.numbers.proofs.parse.Goals as goal

pub returns-then-byte_at-eq43 : goal.returns-then-byte_at-eq43
unfolding parse pick
returns-then-byte_at-eq43 c =
    simp (← c.byte_at.ensures, eq-eqb _ _ c.if-byte_at-eq43.true, ← c.digits_from.ensures)

pub returns : goal.returns
unfolding parse pick
returns c =
    simp (← c.byte_at.ensures, ne_eqb _ _ c.if-byte_at-eq43.false, ← c.digits_from-2.ensures)
