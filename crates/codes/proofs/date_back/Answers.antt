use Rattle.codes.specs.Unpacked.{date_in}
use borrow.Author.Rules.{rules}
use Rattle.codes.proofs.date_back.Goals as goal

pub returns : goal.returns
unfolding date_in
returns c =
    simp (← c.value_back-value.ensures)
