use borrow.Author.Tests.{lt-ltb, le-ltb}
use Rattle.chars.specs.Pick.{pick}
use Rattle.lines.specs.Steps.{taken_at}
use borrow.Author.Rules.{rules}
use Rattle.lines.proofs.taken_at.Goals as goal

pub returns-then-long : goal.returns-then-long
unfolding taken_at pick
returns-then-long c = simp c.if-long.true

pub returns-then-n-at-gt-LIMIT : goal.returns-then-n-at-gt-LIMIT
unfolding taken_at pick
returns-then-n-at-gt-LIMIT c = simp (c.if-long.false, lt-ltb _ _ c.if-n-at-gt-LIMIT.true)

pub returns : goal.returns
unfolding taken_at pick
returns c = simp (c.if-long.false, le-ltb _ _ c.if-n-at-gt-LIMIT.false)
