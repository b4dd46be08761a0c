use Rattle.xranges.specs.Range.{months}
use borrow.Author.Rules.{rules}
use Rattle.xranges.proofs.months.Goals as goal

pub returns : goal.returns
unfolding months
returns c =
    simp (← c.date.ensures, ← c.date-2.ensures)
