use Rattle.codes.specs.Points.{year_of}
use borrow.Author.Rules.{rules}
use Rattle.codes.proofs.year.Goals as goal

pub returns : goal.returns
unfolding year_of
returns c = simp (← c.four.ensures)
