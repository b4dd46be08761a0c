use borrow.Author.Tests.{eq-eqb, ne_eqb}
use Rattle.chars.specs.Pick.{pick}
use Rattle.puts.specs.Answers.{decided}
use Rattle.answers.specs.Lengths.{answered}
use borrow.Author.Rules.{rules}
use Rattle.answers.proofs.written.Goals as goal

pub returns-then-n-eq0 : goal.returns-then-n-eq0
unfolding answered decided pick
returns-then-n-eq0 c = rw (eq-eqb _ _ c.if-n-eq0.true) c.no_room.ensures

pub returns : goal.returns
unfolding answered pick
returns c = rw (ne_eqb _ _ c.if-n-eq0.false)
