use Rattle.strict.specs.LevelMatcher.{level, point_of}
use Rattle.strict.proofs.match_level.Goals as goal

pub returns : goal.returns
unfolding level point_of
returns c = c.text_of.ensures
