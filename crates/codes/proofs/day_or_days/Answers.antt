use Rattle.codes.specs.Ported.{day_or_days}
use Rattle.chars.specs.Pick.{pick}
use borrow.Author.Rules.{rules}
use Rattle.codes.proofs.day_or_days.Goals as goal

pub returns-then-is_unknown : goal.returns-then-is_unknown
unfolding day_or_days pick
returns-then-is_unknown c =
    simp (← c.is_unknown.ensures, c.if-is_unknown.true, ← c.days_of.ensures)

pub returns : goal.returns
unfolding day_or_days pick
returns c =
    simp (← c.is_unknown.ensures, c.if-is_unknown.false, ← c.bad_day.ensures)
