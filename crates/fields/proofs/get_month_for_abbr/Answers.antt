use Rattle.chars.specs.Pick.{pick}
use Rattle.fields.specs.Names.{get_month_for_abbr, month_in}
use borrow.Author.Rules.{rules}
use Rattle.fields.proofs.get_month_for_abbr.Goals as goal

pub returns-then-same_letters : goal.returns-then-same_letters
unfolding get_month_for_abbr month_in pick
returns-then-same_letters c =
    simp (← c.same_letters.ensures, c.if-same_letters.true, ← c.stored.ensures)

pub returns-then-same_letters-2 : goal.returns-then-same_letters-2
unfolding get_month_for_abbr month_in pick
returns-then-same_letters-2 c =
    simp (← c.same_letters.ensures, c.if-same_letters.false, ← c.same_letters-else-same_letters.ensures, c.if-same_letters-2.true, ← c.stored-then-same_letters-2.ensures)

pub returns-then-same_letters-3 : goal.returns-then-same_letters-3
unfolding get_month_for_abbr month_in pick
returns-then-same_letters-3 c =
    simp (← c.same_letters.ensures, c.if-same_letters.false, ← c.same_letters-else-same_letters.ensures, c.if-same_letters-2.false, ← c.same_letters-else-same_letters-2.ensures, c.if-same_letters-3.true, ← c.stored-then-same_letters-3.ensures)

pub returns-else-same_letters-3 : goal.returns-else-same_letters-3
unfolding get_month_for_abbr month_in pick
returns-else-same_letters-3 c =
    simp (← c.same_letters.ensures, c.if-same_letters.false, ← c.same_letters-else-same_letters.ensures, c.if-same_letters-2.false, ← c.same_letters-else-same_letters-2.ensures, c.if-same_letters-3.false, ← c.abbr_from_april.ensures)
