use Rattle.csv_rows.specs.Reader.{closed}
use borrow.Author.Rules.{rules}
use Rattle.csv_rows.proofs.closed_cell.Goals as goal

pub returns-in-Ends : goal.returns-in-Ends
unfolding closed
returns-in-Ends c = simp c.in-Ends.is

pub returns-in-Lone : goal.returns-in-Lone
unfolding closed
returns-in-Lone c = simp c.in-Lone.is

pub returns-in-Other : goal.returns-in-Other
unfolding closed
returns-in-Other c = simp c.in-Other.is

pub returns-in-Unsure : goal.returns-in-Unsure
unfolding closed
returns-in-Unsure c = simp c.in-Unsure.is
