use Rattle.knobstream.specs.Back.{date_by}
use borrow.Author.Rules.{rules}
use Rattle.knobstream.proofs.date_of.Goals as goal

pub returns : goal.returns
unfolding date_by
returns c =
    simp (← c.value_of-value.ensures, ← c.is_set-uncertain.ensures, ← c.is_set-approximate.ensures)
