use Rattle.chars.specs.Pick.{pick}
use Rattle.headers.specs.Tables.{between}
use borrow.Author.Tests.{le-leb, lt-leb}
use borrow.Author.Rules.{rules}
use Rattle.headers.proofs.part.Goals as goal

pub returns-then-start-stop : goal.returns-then-start-stop
unfolding between pick
returns-then-start-stop c =
    simp (le-leb _ _ c.if-stop-s.true, le-leb _ _ c.if-start-stop.true)

pub returns-then-stop-s : goal.returns-then-stop-s
unfolding between pick
returns-then-stop-s c =
    simp (le-leb _ _ c.if-stop-s.true, lt-leb _ _ c.if-start-stop.false)

pub returns : goal.returns
unfolding between pick
returns c =
    simp (lt-leb _ _ c.if-stop-s.false)
