use Rattle.chars.specs.Pick.{pick}
use Rattle.sheets.specs.Rows.{key_column}
use borrow.Author.Tests.{lt-ltb, le-ltb}
use Rattle.sheets.proofs.key_column.Goals as goal

pub returns-then-c-lt256 : goal.returns-then-c-lt256
unfolding key_column pick
returns-then-c-lt256 c = simp (lt-ltb _ _ c.if-c-lt256.true)

pub returns : goal.returns
unfolding key_column pick
returns c = simp (le-ltb _ _ c.if-c-lt256.false)
