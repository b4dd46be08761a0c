use Rattle.chronology.specs.Asked.{untold}
use borrow.Author.Rules.{rules}
use Rattle.chronology.proofs.untold.Goals as goal

pub returns : goal.returns
unfolding untold
returns c = simp (← c.nowhere.ensures)
