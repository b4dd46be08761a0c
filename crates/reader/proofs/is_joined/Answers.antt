use mathlib.Core.Path.{◌∙◌}
use borrow.Author.Rules.{rules}
use Rattle.reader.proofs.Joins.{bytes-over, no-fours, chunks-many, by-chunks}
use Rattle.reader.proofs.is_joined.Goals as goal

pub returns-then-list-le256 : goal.returns-then-list-le256
returns-then-list-le256 c =
    c.lengths_join.ensures ∙ by-chunks _ _ c.if-list-le54.true c.if-list-eq0.true c.if-list-le256.true

pub returns-else-list-le256 : goal.returns-else-list-le256
returns-else-list-le256 c = chunks-many _ _ c.if-list-eq0.true c.if-list-le256.false

pub returns-else-list-eq0 : goal.returns-else-list-eq0
returns-else-list-eq0 c = no-fours _ _ c.if-list-eq0.false

pub returns-else-list-le54 : goal.returns-else-list-le54
returns-else-list-le54 c = bytes-over _ _ c.if-list-le54.false
