use Rattle.chars.specs.Pick.{pick}
use Rattle.writer.specs.Level.{level_end_panics}
use borrow.Author.Rules.{rules}
use Rattle.writer.proofs.level_end_panics.Goals as goal

pub returns-then-has_season : goal.returns-then-has_season
unfolding level_end_panics pick
returns-then-has_season c =
    simp (← c.has_season.ensures, c.if-has_season.true)

pub returns : goal.returns
unfolding level_end_panics pick
returns c =
    simp (← c.has_season.ensures, c.if-has_season.false, ← c.end_panics.ensures)
