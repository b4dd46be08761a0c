use Rattle.dates.specs.Clocks.{zone_in}
use borrow.Author.Rules.{rules}
use Rattle.dates.proofs.zone_in.Goals as goal

pub returns-in-None : goal.returns-in-None
unfolding zone_in
returns-in-None c = simp c.in-None.is

pub returns-in-Some : goal.returns-in-Some
unfolding zone_in
returns-in-Some c =
    simp (c.in-Some.is, ← c.offset_in.ensures)
