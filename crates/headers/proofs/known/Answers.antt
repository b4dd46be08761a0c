use Rattle.headers.specs.Columns.{known}
use borrow.Author.Rules.{rules}
use Rattle.headers.proofs.known.Goals as goal

pub returns : goal.returns
unfolding known
returns c =
    simp (← c.checked.ensures.0, ← c.one.ensures.0, ← c.one-2.ensures.0)
