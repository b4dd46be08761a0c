use Rattle.pages.specs.Pieces.{refused_pages}
use borrow.Author.Rules.{rules}
use Rattle.pages.proofs.refused.Goals as goal

pub returns : goal.returns
unfolding refused_pages
returns c = simp (← c.nowhere.ensures)
