use Rattle.chars.specs.Pick.{pick}
use Rattle.fields.specs.Names.{lower}
use borrow.Author.Tests.{lt-ltb, le-ltb}
use borrow.Author.Rules.{rules}
use Rattle.fields.proofs.lower.Goals as goal

pub returns-then-b-lt65 : goal.returns-then-b-lt65
unfolding lower pick
returns-then-b-lt65 c = simp (lt-ltb _ _ c.if-b-lt65.true)

pub returns-then-b-gt90 : goal.returns-then-b-gt90
unfolding lower pick
returns-then-b-gt90 c =
    simp (le-ltb _ _ c.if-b-lt65.false, lt-ltb _ _ c.if-b-gt90.true)

pub returns : goal.returns
unfolding lower pick
returns c =
    simp (le-ltb _ _ c.if-b-lt65.false, le-ltb _ _ c.if-b-gt90.false)
