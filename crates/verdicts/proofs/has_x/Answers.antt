use Rattle.verdicts.specs.Windows.{stands, has_x}
use borrow.Author.Tests.{lt-ltb, le-ltb}
use Rattle.verdicts.proofs.has_x.Goals as goal

pub returns-then-find-s : goal.returns-then-find-s
unfolding has_x stands
returns-then-find-s c =
    simp (← c.find.ensures, lt-ltb _ _ c.if-find-s.true)

pub returns : goal.returns
unfolding has_x stands
returns c =
    simp (← c.find.ensures, le-ltb _ _ c.if-find-s.false, ← c.find-2.ensures)
