use Rattle.dates.specs.Clocks.{bad_time}
use borrow.Author.Rules.{rules}
use Rattle.dates.proofs.bad_time.Goals as goal

pub returns-then-dated : goal.returns-then-dated
unfolding bad_time
returns-then-dated c =
    simp (c.in-Some.is, c.if-dated.true, ← c.clock_in.ensures)

pub returns-in-None : goal.returns-in-None
unfolding bad_time
returns-in-None c = simp c.in-None.is

pub returns-else-dated : goal.returns-else-dated
unfolding bad_time
returns-else-dated c =
    simp (c.in-Some.is, c.if-dated.false)
