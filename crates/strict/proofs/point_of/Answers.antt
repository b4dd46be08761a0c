use Rattle.strict.specs.LevelMatcher.{point_of}
use Rattle.strict.proofs.point_of.Goals as goal

pub returns-then-level : goal.returns-then-level
unfolding point_of
returns-then-level c =
    simp (c.if-level.true, ← c.level_point.ensures)

pub returns : goal.returns
unfolding point_of
returns c =
    simp (c.if-level.false, ← c.point.ensures)
