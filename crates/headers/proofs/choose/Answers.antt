use Rattle.chars.specs.Pick.{pick}
use Rattle.headers.specs.Columns.{chosen}
use borrow.Author.Tests.{lt-ltb, le-ltb}
use Rattle.headers.proofs.choose.Goals as goal

pub returns-then-semicolon-tab : goal.returns-then-semicolon-tab
unfolding chosen pick
returns-then-semicolon-tab c =
    simp (lt-ltb _ _ c.if-comma-semicolon.true, lt-ltb _ _ c.if-semicolon-tab.true)

pub returns-then-comma-semicolon : goal.returns-then-comma-semicolon
unfolding chosen pick
returns-then-comma-semicolon c =
    simp (lt-ltb _ _ c.if-comma-semicolon.true, le-ltb _ _ c.if-semicolon-tab.false)

pub returns-then-comma-tab : goal.returns-then-comma-tab
unfolding chosen pick
returns-then-comma-tab c =
    simp (le-ltb _ _ c.if-comma-semicolon.false, lt-ltb _ _ c.if-comma-tab.true)

pub returns : goal.returns
unfolding chosen pick
returns c =
    simp (le-ltb _ _ c.if-comma-semicolon.false, le-ltb _ _ c.if-comma-tab.false)
