use Rattle.strict.specs.Matcher.{strict}
use Rattle.strict.specs.LevelMatcher.{point_of}
use Rattle.strict.proofs.match_text.Goals as goal

pub returns : goal.returns
unfolding strict point_of
returns c = c.text_of.ensures
