use Rattle.chars.specs.Pick.{pick}
use Rattle.fields.specs.Names.{month_in}
use borrow.Author.Rules.{rules}
use Rattle.fields.proofs.abbr_from_october.Goals as goal

pub returns-then-same_letters : goal.returns-then-same_letters
unfolding month_in pick
returns-then-same_letters c =
    simp (← c.same_letters.ensures, c.if-same_letters.true, ← c.stored.ensures)

pub returns-then-same_letters-2 : goal.returns-then-same_letters-2
unfolding month_in pick
returns-then-same_letters-2 c =
    simp (← c.same_letters.ensures, c.if-same_letters.false, ← c.same_letters-else-same_letters.ensures, c.if-same_letters-2.true, ← c.stored-then-same_letters-2.ensures)

pub returns-then-same_letters-3 : goal.returns-then-same_letters-3
unfolding month_in pick
returns-then-same_letters-3 c =
    simp (← c.same_letters.ensures, c.if-same_letters.false, ← c.same_letters-else-same_letters.ensures, c.if-same_letters-2.false, ← c.same_letters-else-same_letters-2.ensures, c.if-same_letters-3.true, ← c.stored-then-same_letters-3.ensures)

pub returns-else-same_letters-3 : goal.returns-else-same_letters-3
unfolding month_in pick
returns-else-same_letters-3 c =
    simp (← c.same_letters.ensures, c.if-same_letters.false, ← c.same_letters-else-same_letters.ensures, c.if-same_letters-2.false, ← c.same_letters-else-same_letters-2.ensures, c.if-same_letters-3.false)
