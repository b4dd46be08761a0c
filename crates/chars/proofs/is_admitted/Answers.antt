use Rattle.chars.specs.Classes.{is_admitted}
use borrow.Author.Tests.{le-leb, lt-leb}
use borrow.Author.Rules.{rules}
use Rattle.chars.proofs.is_admitted.Goals as goal

pub returns-then-code-le255 : goal.returns-then-code-le255
unfolding is_admitted
returns-then-code-le255 c = simp (le-leb _ _ c.if-code-le255.true)

pub returns : goal.returns
unfolding is_admitted
returns c =
    simp (lt-leb _ _ c.if-code-le255.false, ← c.within.ensures)
